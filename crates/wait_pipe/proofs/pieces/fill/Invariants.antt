use Rattle.wait_pipe.proofs.Fills.{Filling}
use Rattle.wait_pipe.proofs.pieces.fill.Given as goal

abbrev pub invariant-loop-left : goal.invariant-loop-left
invariant-loop-left l = Filling l.pipe l.initial.task l.task l.bytes l.at l.left l.done

abbrev pub decreases-loop-left : goal.decreases-loop-left
decreases-loop-left l = l.left
