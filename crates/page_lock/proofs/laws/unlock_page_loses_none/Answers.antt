use Rattle.bit_wait.proofs.LosesNone.{clears_lose_none}
use Rattle.page_lock.proofs.laws.unlock_page_loses_none.Goals as goal

pub returns : goal.returns
returns c old new p = clears_lose_none old new p 0
