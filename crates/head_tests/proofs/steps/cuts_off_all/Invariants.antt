use Rattle.wait_rule.specs.Says.{RestsIn}
use Rattle.head_tests.proofs.steps.cuts_off_all.Given as goal

abbrev pub invariant-loop-number : goal.invariant-loop-number
invariant-loop-number l = RestsIn l.domain l.task
