use Rattle.wait_class.specs.Tables.{Advances}
use Rattle.wait_class.specs.declared.stages.Turn.TheVariants as turn
use Rattle.wait_leave.proofs.leaves.run_asked.Given as goal

abbrev pub invariant-loop : goal.invariant-loop
invariant-loop g l = Advances g.C.Machine.table l.fn.task l.task l.fn.call l.call l.fn.stage (turn.Again l.at)
