use Rattle.count_sem.proofs.DownLeaving.{down_may_leave}
use Rattle.count_sem.proofs.leaves.DownCallLeavable.may_leave.Goals as goal

pub returns : goal.returns
returns c = down_may_leave
