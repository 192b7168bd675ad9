use Rattle.std.specs.Prelude.{true}
use Rattle.wait_rule.specs.Pipes.{read_end}
use Rattle.wait_pipe.proofs.UntilTurns.{UntilTurning}
use Rattle.wait_pipe.proofs.leaves.read_piece_until.Given as goal

abbrev pub invariant-loop : goal.invariant-loop
invariant-loop g l = UntilTurning (g.Q.Fn.post l.asks tt true) (read_end l.pipe) l.initial.task l.task
