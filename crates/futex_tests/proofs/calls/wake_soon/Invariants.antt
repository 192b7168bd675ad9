use Rattle.wait_rule.specs.Says.{RestsIn}
use Rattle.futex_tests.proofs.calls.wake_soon.Given as goal

abbrev pub invariant-loop : goal.invariant-loop
invariant-loop g l = RestsIn l.fn.domain l.task
