use Rattle.bit_wait.proofs.LosesNone.{clears_lose_none}
use Rattle.bit_wait.proofs.laws.clear_and_wake_bit_loses_none.Goals as goal

pub returns : goal.returns
returns c = clears_lose_none
