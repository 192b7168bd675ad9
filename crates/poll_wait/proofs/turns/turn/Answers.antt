use Rattle.std.proofs.Common.{Some}
use Rattle.poll_wait.proofs.Pairing.{ends_then}
use Rattle.poll_wait.proofs.turns.turn.Goals as goal

pub returns-in-Ok-clause-goes : goal.returns-in-Ok-clause-goes
returns-in-Ok-clause-goes g c = c.sleep_unless.ensures.goes c.args.task.now c.in-Ok.ensures.queues

pub returns-in-Ok-clause-ends : goal.returns-in-Ok-clause-ends
returns-in-Ok-clause-ends g c = ends_then c.args.poll (λ _. c.queue_both.ensures.carries.state) c.args.task.now
    c.queue_both.new.task c.sleep_unless.new.task c.sleep_unless.result c.queue_both.ensures.carries.carries
    c.sleep_unless.ensures.ends

pub returns-in-Err-clause-goes : goal.returns-in-Err-clause-goes
returns-in-Err-clause-goes g c = c.leave_worn.ensures.goes c.args.task.now c.in-Err.ensures.queues

pub returns-in-Err-clause-ends : goal.returns-in-Err-clause-ends
returns-in-Err-clause-ends g c = ends_then c.args.poll (λ _. c.queue_both.ensures.carries.state) c.args.task.now
    c.queue_both.new.task c.leave_worn.new.task (Some c.leave_worn.result) c.queue_both.ensures.carries.carries
    c.leave_worn.ensures.ends
