use Rattle.std.proofs.Common.{◌≡◌}
use Rattle.std.specs.Prelude.{All}
use Rattle.wait_rule.specs.Says.{IsClean}
use Rattle.bench_threads.proofs.tasks.crowd.Given as goal

abbrev pub invariant-loop : goal.invariant-loop
invariant-loop l = (l.task.domain ≡ l.domain)
    × (IsClean l.task × All (λ t. (t.domain ≡ l.domain) × IsClean t) l.tasks.items)
