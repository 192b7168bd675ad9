use Rattle.wait_rule.specs.Says.{RestsIn}
use Rattle.sem_tests.proofs.alone.play.Given as goal

abbrev pub invariant-loop-step : goal.invariant-loop-step
invariant-loop-step g l = RestsIn l.domain l.task
