use Rattle.wq_head.proofs.LosesNone.{wakes_lose_none}
use Rattle.wq_head.proofs.laws.wake_loses_none.Goals as goal

pub returns : goal.returns
returns c = wakes_lose_none
