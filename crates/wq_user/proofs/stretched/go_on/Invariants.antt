use Rattle.std.specs.Prelude.{◌≡◌}
use Rattle.wait_class.specs.declared.stages.Turn.TheVariants as turn
use Rattle.wait_class.specs.{Tables.IsAt, Tables.Plan, UnderWay.IsUnderWay}
use Rattle.wq_user.proofs.stretched.go_on.Given as goal

abbrev pub invariant-loop : goal.invariant-loop
invariant-loop g l = (l.task.domain ≡ l.domain)
    × (IsAt g.W.Stretched.table l.task l.run l.at
    × ((c : Plan) → IsUnderWay g.W.Stretched.table c l.fn.task l.fn.run (turn.Again l.fn.stage)
    → IsUnderWay g.W.Stretched.table c l.task l.run (turn.Again l.at)))
