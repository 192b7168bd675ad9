use Rattle.wait_rule.specs.Says.{RestsIn}
use Rattle.wait_tests.proofs.leaves.pool.post_all.Given as goal

abbrev pub invariant-loop-job : goal.invariant-loop-job
invariant-loop-job g l = record {
  rests : RestsIn l.fn.domain l.task;
}

abbrev pub invariant-loop-who : goal.invariant-loop-who
invariant-loop-who g l = record {
  rests : RestsIn l.fn.domain l.task;
}
