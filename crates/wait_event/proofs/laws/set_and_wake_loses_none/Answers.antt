use Rattle.wait_event.proofs.LosesNone.{sets_lose_none}
use Rattle.wait_event.proofs.laws.set_and_wake_loses_none.Goals as goal

pub returns : goal.returns
returns c = sets_lose_none
