use Rattle.wq_head.proofs.LockWaits.{waited_more}
use Rattle.wq_head.proofs.locks.look_often.Goals as goal

pub loop-preserved : goal.loop-preserved
loop-preserved c = waited_more c.args.task.now c.loop.task c.serving_load.new.task c.args.head c.args.ticket
    c.serving_load.result c.requires.drawn c.loop.invariant c.serving_load.ensures.step c.if-serving_load-ticket.false
