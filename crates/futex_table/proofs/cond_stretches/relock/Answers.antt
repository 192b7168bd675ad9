use Rattle.std.proofs.Common.{sym, subst}
use Rattle.std.specs.Prelude.{false}
use Rattle.wait_class.specs.declared.stages.Turn.TheVariants as turn
use Rattle.futex_table.specs.{CondStretches.EndsCond, LockStretches.AskedIf}
use Rattle.futex_table.proofs.CondStretching.{relock_ends, relock_on}
use Rattle.futex_table.proofs.cond_stretches.relock.Goals as goal

pub end_mutex_lock-locked-requires : goal.end_mutex_lock-locked-requires
end_mutex_lock-locked-requires c =
    let y = c.requires.at.2 in record { over = (y.waited, c.in-Done.ensures.came false y.waited y.locks) }

pub returns-in-Again-clause-came : goal.returns-in-Again-clause-came
returns-in-Again-clause-came c b start x = relock_on (AskedIf b) c.args.wait start c.args.task.now
    c.stretch_mutex_lock.new.task c.args.end (turn.Again c.args.stage) (turn.Again c.in-Again.next) x
    (c.in-Again.ensures.came false x.waited x.locks)

pub returns-in-Asleep-clause-came : goal.returns-in-Asleep-clause-came
returns-in-Asleep-clause-came c b start x = relock_on (AskedIf b) c.args.wait start c.args.task.now
    c.stretch_mutex_lock.new.task c.args.end (turn.Again c.args.stage) (turn.Asleep c.in-Asleep.next) x
    (c.in-Asleep.ensures.came false x.waited x.locks)

pub returns-in-Locked-clause-came : goal.returns-in-Locked-clause-came
returns-in-Locked-clause-came c b start x = relock_on (AskedIf b) c.args.wait start c.args.task.now
    c.stretch_mutex_lock.new.task c.args.end (turn.Again c.args.stage) (turn.Again c.in-Locked.next) x
    (c.in-Locked.ensures.came false x.waited x.locks)

pub returns-in-Done-clause-came : goal.returns-in-Done-clause-came
returns-in-Done-clause-came c b start x =
    let e = c.in-Done.ensures.came false x.waited x.locks in
    let l = c.end_mutex_lock-locked in
    subst (EndsCond (AskedIf b) c.args.wait start c.stretch_mutex_lock.new.task) (sym c.cond_until_answer.ensures)
    (relock_ends (AskedIf b) c.args.wait start c.args.task.now c.stretch_mutex_lock.new.task c.args.end
    (turn.Again c.args.stage) x l.result (l.ensures.locked x.waited e) (l.ensures.leaves x.waited e))
