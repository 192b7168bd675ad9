use Rattle.wait_rule.specs.Says.{RestsIn}
use Rattle.head_tests.proofs.steps.parks.wake_soon.Given as goal

abbrev pub invariant-loop : goal.invariant-loop
invariant-loop g l = RestsIn l.domain l.task
