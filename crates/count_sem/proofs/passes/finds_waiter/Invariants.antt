use Rattle.wq_head.proofs.SelectingHold.{InSelection}
use Rattle.count_sem.proofs.passes.finds_waiter.Given as goal

abbrev pub invariant-loop-i : goal.invariant-loop-i
invariant-loop-i l = InSelection l.fn.task l.task l.task l.i 0
