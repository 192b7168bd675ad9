use Rattle.std.specs.Prelude.{◌≡◌, []}
use Rattle.wait_rule.specs.PassedLocks.{PassesNone}
use Rattle.wq_head.specs.{Roused.tasks_in, Turns.IsAtWake}
use Rattle.wq_head.proofs.wakes.wake.Given as goal

abbrev pub invariant-loop : goal.invariant-loop
invariant-loop g l = (l.run.aim ≡ record { watch = l.fn.watch; mode = l.fn.mode; count = l.fn.count })
    × IsAtWake l.fn.task l.task l.run l.stage × (l.task.domain ≡ l.fn.domain) × (tasks_in l.rousing ≡ [])
    × PassesNone l.passing

-- a wake that starves does not return
abbrev pub invariant-loop-2 : goal.invariant-loop-2
invariant-loop-2 g l = Unit {0}
