use Rattle.std.proofs.Common.{◌≡◌}
use Rattle.wait_class.specs.Posts.{IsOut}
use Rattle.wait_pipe.specs.Pieces.{IsSettled}
use Rattle.wait_rule.specs.{PipeSays.reading, PipeSays.writing, Queues.IsIdle, Says.IsUp}
use Rattle.bench_calls.proofs.pieces.often.Given as goal

abbrev pub invariant-loop : goal.invariant-loop
invariant-loop g l = ((l.one.domain ≡ l.domain) × (l.two.domain ≡ l.domain)) × (IsUp l.one × IsUp l.two)
    × (IsIdle l.one × IsIdle l.two) × (IsOut l.one × IsOut l.two)
    × (IsSettled (writing 0 l.one) × IsSettled (reading 0 l.two))
