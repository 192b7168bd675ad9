use Rattle.wq_head.proofs.HeadLooks.{HasFoundNone}
use Rattle.wq_head.proofs.looks.active.Given as goal

abbrev pub invariant-loop-i : goal.invariant-loop-i
invariant-loop-i l = HasFoundNone l.fn.task l.task l.head l.i
