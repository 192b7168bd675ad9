use Rattle.std.specs.Prelude.{◌≡◌, false}
use Rattle.wait_rule.specs.Known.{Known}
use Rattle.wait_class.specs.declared.stages.Turn.TheVariants as turn
use Rattle.futex_table.specs.LockStretches.{IsLockUnderWay, IsMutexLocking}
use Rattle.lock_users.proofs.stretched.doze.Given as goal

abbrev pub invariant-loop : goal.invariant-loop
invariant-loop g l = (l.task.domain ≡ l.domain) × IsLockUnderWay 6 l.task (turn.Asleep l.stage)
    × ((start : Known) → IsMutexLocking false 6 start l.fn.task (turn.Asleep l.stage)
    → IsMutexLocking false 6 start l.task (turn.Asleep l.stage))
