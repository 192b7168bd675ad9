use Rattle.var_wait.proofs.LosesNone.{publishes_lose_none}
use Rattle.var_wait.proofs.laws.publish_var_and_wake_loses_none.Goals as goal

pub returns : goal.returns
returns c = publishes_lose_none
