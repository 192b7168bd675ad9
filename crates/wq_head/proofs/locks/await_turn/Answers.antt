use Rattle.wq_head.proofs.LockWaits.{waited_none, waited_more, turn_on}
use Rattle.wq_head.proofs.locks.await_turn.Goals as goal

pub returns : goal.returns
returns g c = turn_on c.args.task.now c.serving_load.new.task c.await_others.new.task c.args.head c.args.ticket
    (waited_more c.args.task.now c.args.task.now c.serving_load.new.task c.args.head c.args.ticket
    c.serving_load.result c.requires.drawn (waited_none c.args.task.now) c.serving_load.ensures.step
    c.if-serving_load-ticket.false) c.await_others.ensures
