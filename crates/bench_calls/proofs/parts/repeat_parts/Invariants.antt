use Rattle.std.proofs.Common.{◌≡◌}
use Rattle.wait_model.specs.declared.tasks.SleepState.TheVariants as states
use Rattle.wait_model.specs.declared.watches.Kind.TheVariants as kinds
use Rattle.wait_model.specs.declared.watches.Watch.TheVariants as watch
use Rattle.wait_event.specs.Prepares.{MayPrepare}
use Rattle.bench_calls.proofs.parts.repeat_parts.Given as goal

abbrev pub invariant-loop : goal.invariant-loop
invariant-loop g l = (l.task.domain ≡ l.domain) × MayPrepare l.task (watch.Plain 0) kinds.Autoremove states.Uninterruptible
