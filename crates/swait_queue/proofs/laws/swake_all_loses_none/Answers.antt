use Rattle.swait_queue.proofs.LosesNone.{swakes_lose_none}
use Rattle.swait_queue.proofs.laws.swake_all_loses_none.Goals as goal

pub returns : goal.returns
returns c = swakes_lose_none
