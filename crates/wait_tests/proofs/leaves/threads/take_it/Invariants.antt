use Rattle.wait_rule.specs.Says.{RestsIn}
use Rattle.wait_tests.proofs.leaves.threads.take_it.Given as goal

abbrev pub invariant-loop : goal.invariant-loop
invariant-loop g l = record {
  rests : RestsIn l.fn.domain l.task;
}
