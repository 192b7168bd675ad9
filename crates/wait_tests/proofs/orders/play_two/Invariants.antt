use Rattle.wait_rule.specs.Says.{RestsIn}
use Rattle.wait_tests.specs.TurnTasks.{TurnsIn}
use Rattle.wait_tests.proofs.orders.play_two.Given as goal

abbrev pub invariant-loop : goal.invariant-loop
invariant-loop g l = record {
  waker : RestsIn l.fn.domain l.waker;
  one : TurnsIn l.fn.domain g.C.Machine.table l.first l.one l.one_at;
  two : TurnsIn l.fn.domain g.C.Machine.table l.second l.two l.two_at;
}
