use Rattle.page_lock.proofs.PageLeaving.{page_may_leave}
use Rattle.page_lock.proofs.leaves.LockPageLeavable.may_leave.Goals as goal

pub returns : goal.returns
returns c = page_may_leave
