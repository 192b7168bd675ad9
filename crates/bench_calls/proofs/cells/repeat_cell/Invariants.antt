use Rattle.wait_rule.specs.Says.{RestsIn}
use Rattle.bench_calls.proofs.cells.repeat_cell.Given as goal

abbrev pub invariant-loop : goal.invariant-loop
invariant-loop g l = RestsIn l.domain l.task
