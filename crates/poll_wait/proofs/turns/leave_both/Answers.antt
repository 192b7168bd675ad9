use Rattle.poll_wait.proofs.{Pairing.leave_pair, Pairing.out_stays, Queueing.may_finish, Queueing.may_leave}
use Rattle.poll_wait.proofs.turns.leave_both.Goals as goal

pub finish_wait-requires-clause-may : goal.finish_wait-requires-clause-may
finish_wait-requires-clause-may g c = may_finish c.args.poll c.requires.poll c.args.task.now c.requires.has

pub leave_second-requires-clause-may : goal.leave_second-requires-clause-may
leave_second-requires-clause-may g c = may_leave c.args.poll c.requires.poll c.args.task.now c.finish_wait.new.task
    c.requires.has c.finish_wait.ensures.finished c.finish_wait.ensures.carries.number

pub returns-clause-left : goal.returns-clause-left
returns-clause-left g c = record {
  between = c.finish_wait.new.task;
  first = c.finish_wait.ensures.finished;
  second = c.leave_second.ensures.left;
}

pub returns-clause-out : goal.returns-clause-out
returns-clause-out g c = out_stays c.args.task.now c.finish_wait.new.task c.leave_second.new.task
    c.finish_wait.ensures.carries.number c.finish_wait.ensures.finished.out c.leave_second.ensures.carries

pub returns-clause-carries : goal.returns-clause-carries
returns-clause-carries g c = leave_pair c.args.task.now c.finish_wait.new.task c.leave_second.new.task
    c.finish_wait.ensures.carries c.leave_second.ensures.carries
