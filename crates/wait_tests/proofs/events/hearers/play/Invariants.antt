use Rattle.std.proofs.Common.{◌≡◌}
use Rattle.wait_rule.specs.Says.{RestsIn}
use Rattle.wait_tests.specs.EventTasks.{IsHearingOn}
use Rattle.wait_tests.proofs.events.hearers.play.Given as goal

abbrev pub invariant-loop-turn : goal.invariant-loop-turn
invariant-loop-turn g l = record {
  waker : RestsIn l.fn.domain l.waker;
  of_first : l.first.domain ≡ l.fn.domain;
  of_second : l.second.domain ≡ l.fn.domain;
  one : IsHearingOn l.first l.one_at;
  two : IsHearingOn l.second l.two_at;
}
