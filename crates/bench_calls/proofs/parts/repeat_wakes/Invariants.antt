use Rattle.std.proofs.Common.{◌≡◌}
use Rattle.wait_rule.specs.{Queues.IsIdle, Says.IsUp}
use Rattle.bench_calls.proofs.parts.repeat_wakes.Given as goal

abbrev pub invariant-loop : goal.invariant-loop
invariant-loop g l = (l.task.domain ≡ l.domain) × (IsUp l.task × IsIdle l.task)
