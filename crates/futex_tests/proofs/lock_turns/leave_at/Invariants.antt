use Rattle.std.specs.Prelude.{◌≡◌}
use Rattle.futex_table.specs.LockStretches.{IsLockUnderWay}
use Rattle.futex_tests.proofs.lock_turns.leave_at.Given as goal

abbrev pub invariant-loop : goal.invariant-loop
invariant-loop g l = (l.task.domain ≡ l.fn.domain) × IsLockUnderWay 6 l.task l.at
