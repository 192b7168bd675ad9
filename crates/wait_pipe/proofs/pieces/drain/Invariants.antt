use Rattle.std.proofs.Common.{length}
use Rattle.wait_pipe.proofs.Fills.{Draining}
use Rattle.wait_pipe.proofs.pieces.drain.Given as goal

abbrev pub invariant-loop-left : goal.invariant-loop-left
invariant-loop-left l = Draining l.pipe l.initial.task l.task (length l.initial.buf) l.buf l.at l.left l.done

abbrev pub decreases-loop-left : goal.decreases-loop-left
decreases-loop-left l = l.left
