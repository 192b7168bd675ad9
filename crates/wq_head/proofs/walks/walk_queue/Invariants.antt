use Rattle.wq_head.proofs.GoneOver.{GoesOver}
use Rattle.wq_head.proofs.walks.walk_queue.Given as goal

abbrev pub invariant-loop-i : goal.invariant-loop-i
invariant-loop-i l = GoesOver l.aim l.fn.task l.fn.walk l.fn.rousing l.i l.task l.walk l.rousing
