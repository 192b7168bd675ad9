use Rattle.std.proofs.Common.{Err, Ok}
use Rattle.wait_event.specs.declared.prepares.Prepared.TheVariants as prepared
use Rattle.poll_wait.specs.Polls.{front_in}
use Rattle.poll_wait.proofs.Pairing.{join_pair, prepare_pair, queue_pair}
use Rattle.poll_wait.proofs.Polled.{join_has, prepare_has}
use Rattle.poll_wait.proofs.Queueing.{ends_kind, may_join, queue_ends}
use Rattle.poll_wait.proofs.turns.queue_both.Goals as goal

pub join_second-requires-clause-may : goal.join_second-requires-clause-may
join_second-requires-clause-may g c = may_join c.args.poll c.prepare_to_wait.new.task
    (prepare_has c.args.poll c.requires.poll c.args.task.now c.prepare_to_wait.new.task (Ok tt)
    c.prepare_to_wait.ensures.keeps.number c.requires.may.has
    (ends_kind c.args.task.now c.prepare_to_wait.new.task c.args.poll.first c.kind.result (front_in c.args.poll.state)
    (Ok prepared.Queued) c.kind.ensures c.in-Ok.ensures.ends))

pub returns-in-Ok-clause-queues : goal.returns-in-Ok-clause-queues
returns-in-Ok-clause-queues g c = queue_ends c.args.poll c.args.task.now c.prepare_to_wait.new.task
    c.join_second.new.task c.join_second.result
    (ends_kind c.args.task.now c.prepare_to_wait.new.task c.args.poll.first c.kind.result (front_in c.args.poll.state)
    (Ok prepared.Queued) c.kind.ensures c.in-Ok.ensures.ends) c.join_second.ensures.ends

pub returns-in-Ok-clause-has : goal.returns-in-Ok-clause-has
returns-in-Ok-clause-has g c = join_has c.args.poll c.requires.poll c.prepare_to_wait.new.task c.join_second.new.task
    c.join_second.result c.join_second.ensures.carries.number
    (prepare_has c.args.poll c.requires.poll c.args.task.now c.prepare_to_wait.new.task (Ok tt)
    c.prepare_to_wait.ensures.keeps.number c.requires.may.has
    (ends_kind c.args.task.now c.prepare_to_wait.new.task c.args.poll.first c.kind.result (front_in c.args.poll.state)
    (Ok prepared.Queued) c.kind.ensures c.in-Ok.ensures.ends))
    c.join_second.ensures.may c.join_second.ensures.ends

pub returns-in-Ok-clause-carries : goal.returns-in-Ok-clause-carries
returns-in-Ok-clause-carries g c = queue_pair c.args.task.now c.prepare_to_wait.new.task c.join_second.new.task
    (prepare_pair c.args.task.now c.prepare_to_wait.new.task c.args.poll.state (Ok tt) c.in-Ok.ensures.carries)
    (join_pair c.prepare_to_wait.new.task c.join_second.new.task c.join_second.ensures.carries)

pub returns-in-Err-clause-has : goal.returns-in-Err-clause-has
returns-in-Err-clause-has g c = prepare_has c.args.poll c.requires.poll c.args.task.now c.prepare_to_wait.new.task
    (Err c.in-Err.worn) c.prepare_to_wait.ensures.keeps.number c.requires.may.has
    (ends_kind c.args.task.now c.prepare_to_wait.new.task c.args.poll.first c.kind.result (front_in c.args.poll.state)
    (Err c.in-Err.worn) c.kind.ensures c.in-Err.ensures.ends)

pub returns-in-Err-clause-carries : goal.returns-in-Err-clause-carries
returns-in-Err-clause-carries g c = prepare_pair c.args.task.now c.prepare_to_wait.new.task c.args.poll.state
    (Err c.in-Err.worn) c.in-Err.ensures.carries
