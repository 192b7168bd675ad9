use Rattle.wq_head.proofs.LockWaits.{waited_more}
use Rattle.wq_head.proofs.locks.await_others.Goals as goal

pub loop-preserved : goal.loop-preserved
loop-preserved g c = waited_more c.args.task.now c.loop.task c.serving_load-found.new.task c.args.head c.args.ticket
    c.serving_load-found.result c.requires.drawn c.loop.invariant c.serving_load-found.ensures.step
    c.if-found-ticket.false
