use Rattle.std.proofs.Common.{rules}
use Rattle.std.specs.Prelude.{false}
use Rattle.lock_users.proofs.stretched.take_by_stretches.Goals as goal

pub end_mutex_lock-requires : goal.end_mutex_lock-requires
end_mutex_lock-requires g c = record {
  over = (c.args.task.now, c.lock_on-answer.ensures.came c.args.task.now (c.begin_mutex_lock-stage.ensures.came false));
}

pub returns-in-Ok-clause-rests : goal.returns-in-Ok-clause-rests
returns-in-Ok-clause-rests g c = record {
  of = search rules;
  clean = c.end_mutex_lock.ensures.clean c.args.task.now
      (c.lock_on-answer.ensures.came c.args.task.now (c.begin_mutex_lock-stage.ensures.came false)) c.requires.rests.clean;
}

pub returns-in-Ok-clause-tallied : goal.returns-in-Ok-clause-tallied
returns-in-Ok-clause-tallied g c = c.end_mutex_lock.ensures.tallied c.args.task.now
    (c.lock_on-answer.ensures.came c.args.task.now (c.begin_mutex_lock-stage.ensures.came false))

pub returns-in-Err-clause-rests : goal.returns-in-Err-clause-rests
returns-in-Err-clause-rests g c = record {
  of = search rules;
  clean = c.end_mutex_lock.ensures.clean c.args.task.now
      (c.lock_on-answer.ensures.came c.args.task.now (c.begin_mutex_lock-stage.ensures.came false)) c.requires.rests.clean;
}

pub returns-in-Err-clause-tallied : goal.returns-in-Err-clause-tallied
returns-in-Err-clause-tallied g c = c.end_mutex_lock.ensures.tallied c.args.task.now
    (c.lock_on-answer.ensures.came c.args.task.now (c.begin_mutex_lock-stage.ensures.came false))
