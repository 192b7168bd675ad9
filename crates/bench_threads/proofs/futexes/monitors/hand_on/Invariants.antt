use Rattle.wait_rule.specs.Says.{RestsIn}
use Rattle.futex_table.specs.Holding.{HoldsMutex}
use Rattle.bench_threads.proofs.futexes.monitors.hand_on.Given as goal

abbrev pub invariant-loop : goal.invariant-loop
invariant-loop g l = record {
  rests : RestsIn l.fn.domain l.task;
  holds : HoldsMutex l.task 6;
}
