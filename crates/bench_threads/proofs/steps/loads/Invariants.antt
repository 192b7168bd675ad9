use Rattle.std.proofs.Common.{◌≡◌}
use Rattle.wait_rule.specs.Says.{IsUp}
use Rattle.bench_threads.proofs.steps.loads.Given as goal

abbrev pub invariant-loop : goal.invariant-loop
invariant-loop l = (l.task.domain ≡ l.domain) × IsUp l.task
