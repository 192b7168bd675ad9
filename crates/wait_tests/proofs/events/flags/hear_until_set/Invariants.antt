use Rattle.std.proofs.Common.{◌≡◌}
use Rattle.wait_tests.specs.EventTasks.{IsCleanHearer}
use Rattle.wait_tests.proofs.events.flags.hear_until_set.Given as goal

abbrev pub invariant-loop : goal.invariant-loop
invariant-loop g l = record {
  of : l.task.domain ≡ l.fn.domain;
  hearer : IsCleanHearer l.task;
}
