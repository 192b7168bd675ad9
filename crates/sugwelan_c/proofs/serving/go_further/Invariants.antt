use Rattle.wq_head.specs.Roused.{tasks_in}
use Rattle.sugwelan_c.specs.Served.{Further, goes_by}
use Rattle.sugwelan_c.proofs.serving.go_further.Given as goal

abbrev pub invariant-loop-stretch : goal.invariant-loop-stretch
invariant-loop-stretch l = Further (goes_by l.fn.leaves) l.fn.task l.fn.first (tasks_in l.fn.rousing) l.fn.passed
    l.task l.reply (tasks_in l.rousing) l.passed
