use Rattle.std.specs.Prelude.{◌≡◌}
use Rattle.futex_table.specs.TallyUses.{LeavesTallies}
use Rattle.futex_table.proofs.Mutexing.{IsWaiting}
use Rattle.futex_table.proofs.mutexes.mutex_lock.Given as goal

abbrev pub invariant-loop : goal.invariant-loop
invariant-loop g l = IsWaiting l.fn.task l.task l.fn.lock × (l.task.domain ≡ l.fn.domain)
    × LeavesTallies l.fn.lock l.fn.task l.task
