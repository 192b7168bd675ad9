use Rattle.std.proofs.Common.{◌≤◌}
use Rattle.wait_rule.specs.{Passing.HasPassedCells, Pipes.read_end}
use Rattle.head_tests.proofs.steps.pipes.reads.Given as goal

abbrev pub invariant-loop : goal.invariant-loop
invariant-loop g l = HasPassedCells l.domain (read_end l.pipe) l.n l.task × (l.right ≤ l.n) × (l.n ≤ 5000)
