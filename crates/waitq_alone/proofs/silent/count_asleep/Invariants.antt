use Rattle.std.proofs.Common.{◌≡◌, ◌≤◌}
use Rattle.wait_model.specs.Runs.{state_of}
use Rattle.waitq_alone.specs.Drill.{asleep_below}
use Rattle.waitq_alone.proofs.silent.count_asleep.Given as goal

abbrev pub invariant-loop-task : goal.invariant-loop-task
invariant-loop-task l = record {
  asleep : l.asleep ≡ asleep_below (state_of l.core) l.task;
  few : l.asleep ≤ l.task;
}
