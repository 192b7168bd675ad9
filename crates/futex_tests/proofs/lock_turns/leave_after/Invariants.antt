use Rattle.std.specs.Prelude.{◌≡◌}
use Rattle.wait_rule.specs.Says.{RestsIn}
use Rattle.futex_table.specs.LockStretches.{IsLockUnderWay}
use Rattle.futex_tests.proofs.lock_turns.leave_after.Given as goal

-- the lock stands where its last stretch left it
abbrev pub invariant-loop : goal.invariant-loop
invariant-loop g l = (l.task.domain ≡ l.fn.domain) × IsLockUnderWay 6 l.task l.at × RestsIn l.fn.domain l.waker
