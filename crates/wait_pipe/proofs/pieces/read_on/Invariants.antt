use Rattle.wait_rule.specs.Pipes.{read_end}
use Rattle.wait_pipe.proofs.Turns.{Turning}
use Rattle.wait_pipe.proofs.pieces.read_on.Given as goal

abbrev pub invariant-loop : goal.invariant-loop
invariant-loop g l = Turning (read_end l.pipe) l.initial.task l.task
