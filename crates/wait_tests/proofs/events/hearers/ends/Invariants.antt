use Rattle.std.proofs.Common.{◌≡◌}
use Rattle.wait_tests.specs.EventTasks.{IsHearingOn}
use Rattle.wait_tests.proofs.events.hearers.ends.Given as goal

abbrev pub invariant-loop : goal.invariant-loop
invariant-loop l = record {
  of : l.task.domain ≡ l.fn.domain;
  at : IsHearingOn l.task l.at;
}
