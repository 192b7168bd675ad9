use Rattle.std.proofs.Common.{◌≡◌}
use Rattle.wait_event.specs.Waits.{wait_table}
use Rattle.wq_head.specs.Turns.{WakeRests}
use Rattle.wait_tests.specs.TurnTasks.{TurnsIn}
use Rattle.wait_tests.proofs.events.turns.play.Given as goal

abbrev pub invariant-loop-early : goal.invariant-loop-early
invariant-loop-early l = record {
  one : TurnsIn l.fn.domain wait_table l.first l.one l.one_at;
  two : TurnsIn l.fn.domain wait_table l.second l.two l.two_at;
}

abbrev pub invariant-loop-turn : goal.invariant-loop-turn
invariant-loop-turn l = record {
  of : l.waker.domain ≡ l.fn.domain;
  waking : WakeRests l.waker l.wake l.wake_at;
  one : TurnsIn l.fn.domain wait_table l.first l.one l.one_at;
  two : TurnsIn l.fn.domain wait_table l.second l.two l.two_at;
}
