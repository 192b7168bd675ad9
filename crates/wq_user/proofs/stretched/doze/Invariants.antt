use Rattle.std.specs.Prelude.{◌≡◌}
use Rattle.wait_class.specs.declared.stages.Turn.TheVariants as turn
use Rattle.wait_class.specs.{Tables.IsAsleepAt, Tables.Plan, UnderWay.IsUnderWay}
use Rattle.wq_user.proofs.stretched.doze.Given as goal

abbrev pub invariant-loop : goal.invariant-loop
invariant-loop g l = (l.task.domain ≡ l.domain)
    × (IsAsleepAt g.W.Stretched.table l.task l.run l.stage
    × ((c : Plan) → IsUnderWay g.W.Stretched.table c l.fn.task l.run (turn.Asleep l.stage)
    → IsUnderWay g.W.Stretched.table c l.task l.run (turn.Asleep l.stage)))
