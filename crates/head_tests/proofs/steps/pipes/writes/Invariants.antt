use Rattle.std.proofs.Common.{◌≤◌}
use Rattle.wait_rule.specs.{Passing.HasPassedCells, Pipes.write_end}
use Rattle.head_tests.proofs.steps.pipes.writes.Given as goal

abbrev pub invariant-loop : goal.invariant-loop
invariant-loop g l = HasPassedCells l.domain (write_end l.pipe) l.n l.task × (l.n ≤ 5000)
