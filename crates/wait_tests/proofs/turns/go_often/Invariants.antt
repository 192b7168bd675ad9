use Rattle.wait_tests.specs.TurnTasks.{TurnsIn}
use Rattle.wait_tests.proofs.turns.go_often.Given as goal

abbrev pub invariant-loop : goal.invariant-loop
invariant-loop g l = TurnsIn l.fn.domain g.C.Machine.table l.task l.run l.at
