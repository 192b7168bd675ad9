use Rattle.wait_tests.specs.TurnTasks.{IsIdleIn, TurnsIn}
use Rattle.wait_tests.proofs.bits.rousing.rouse_and_go.Given as goal

abbrev pub invariant-loop : goal.invariant-loop
invariant-loop g l = record {
  waker : IsIdleIn l.fn.domain l.waker;
  waiting : TurnsIn l.fn.domain g.C.Machine.table l.waiter l.run l.at;
}
