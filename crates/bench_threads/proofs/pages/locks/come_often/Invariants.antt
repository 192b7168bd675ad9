use Rattle.wait_rule.specs.Says.{RestsIn}
use Rattle.bench_threads.proofs.pages.locks.come_often.Given as goal

abbrev pub invariant-loop : goal.invariant-loop
invariant-loop g l = RestsIn l.domain l.task
