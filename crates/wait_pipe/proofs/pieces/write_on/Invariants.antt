use Rattle.wait_rule.specs.Pipes.{write_end}
use Rattle.wait_pipe.proofs.Turns.{Turning}
use Rattle.wait_pipe.proofs.pieces.write_on.Given as goal

abbrev pub invariant-loop : goal.invariant-loop
invariant-loop g l = Turning (write_end l.pipe) l.initial.task l.task
