use Rattle.wait_class.specs.declared.stages.Turn.TheVariants as turn
use Rattle.wait_class.specs.Tables.{SleepsNot}
use Rattle.wait_leave.specs.OnTheWay.{OnTheWay}
use Rattle.wait_leave.proofs.leaves.leave.Given as goal

abbrev pub invariant-loop : goal.invariant-loop
invariant-loop g l = OnTheWay (Unit {0}) g.C.Machine.table g.C.Leavable.exits l.fn.task l.fn.call l.fn.stage l.task l.call
    (turn.Again l.at) × SleepsNot l.fn.task l.task
