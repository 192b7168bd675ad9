use Rattle.completion_cell.proofs.Words.{awaits_heed}
use Rattle.completion_cell.proofs.laws.signals_are_heeded.Goals as goal

pub returns : goal.returns
returns c = awaits_heed
