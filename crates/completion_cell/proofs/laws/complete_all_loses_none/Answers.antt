use Rattle.completion_cell.proofs.LosesNone.{completes_lose_none}
use Rattle.completion_cell.proofs.laws.complete_all_loses_none.Goals as goal

pub returns : goal.returns
returns c = completes_lose_none
