use Rattle.std.proofs.Common.{subst, sym}
use Rattle.std.specs.Prelude.{MatchBool, Result}
use Rattle.wait_rule.specs.Says.{IsClean}
use Rattle.wait_leave.specs.declared.exits.Until.{Until}
use Rattle.bit_wait.specs.{Holders.IsHolder, LockLeaves.LeavesBitLock, LockLeaves.takes_until}
use Rattle.bit_wait.specs.declared.wait_calls.BitEnd.{BitEnd}
use Rattle.bit_wait.proofs.LockLeaving.{left_clean, left_lock}
use Rattle.bit_wait.proofs.lock_leaves.end_lock_until.Goals as goal

pub returns-clause-holder : goal.returns-clause-holder
returns-clause-holder c p i = subst (λ (x : Until (Result (Unit {0}) BitEnd)). MatchBool (takes_until x)
    (IsHolder c.rest.new.task p.watch) (IsClean c.rest.new.task)) (sym c.until_of.ensures)
    (left_clean _ _ _ _ _ _ i c.rest.ensures)

pub returns-clause-ends : goal.returns-clause-ends
returns-clause-ends c start f s came = subst (LeavesBitLock (Unit {0}) start c.rest.new.task f s)
    (sym c.until_of.ensures) (left_lock _ _ _ _ _ _ _ _ came c.rest.ensures)
