use Rattle.wait_rule.specs.Says.{RestsIn}
use Rattle.wait_tests.proofs.leaves.pool.work.Given as goal

abbrev pub invariant-loop : goal.invariant-loop
invariant-loop g l = record {
  rests : RestsIn l.fn.domain l.task;
}
