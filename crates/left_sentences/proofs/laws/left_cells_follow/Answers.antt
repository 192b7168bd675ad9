use Rattle.left_sentences.proofs.CellWays as cells
use Rattle.left_sentences.proofs.laws.left_cells_follow.Goals as goal

pub returns : goal.returns
returns g c = cells.left_awaits_follow _
