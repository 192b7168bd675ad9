use Rattle.std.specs.Prelude.{◌≡◌, true}
use Rattle.futex_table.specs.TallyUses.{LeavesTallies}
use Rattle.futex_table.proofs.LockLeaving.{IsAsking}
use Rattle.futex_table.proofs.lock_leaves.mutex_lock_until.Given as goal

abbrev pub invariant-loop : goal.invariant-loop
invariant-loop g l = IsAsking (g.Q.Fn.post l.fn.asks tt true) l.fn.task l.task l.fn.lock
    × (l.task.domain ≡ l.fn.domain) × LeavesTallies l.fn.lock l.fn.task l.task
