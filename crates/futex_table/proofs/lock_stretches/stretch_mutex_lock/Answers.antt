use Rattle.std.proofs.Common.{sym, subst}
use Rattle.wait_class.specs.declared.stages.Turn.TheVariants as turn
use Rattle.wait_leave.specs.OnTheWay.{straight}
use Rattle.futex_table.specs.LockStretches.{AskedIf, IsLockAt, IsMutexLocking}
use Rattle.futex_table.proofs.LockStretching.{round_lands, round_on}
use Rattle.futex_table.proofs.lock_stretches.stretch_mutex_lock.Goals as goal

pub stretch-turn-requires-clause-at : goal.stretch-turn-requires-clause-at
stretch-turn-requires-clause-at c =
    let x = c.requires.at in
    round_lands x.0 c.args.lock x.1 c.args.task.now c.in-Wait.wait (turn.Again c.in-Wait.at)
    (subst (IsLockAt (AskedIf x.0) c.args.lock x.1 c.args.task.now) c.in-Wait.is x.2)

pub returns-in-Wait-clause-came : goal.returns-in-Wait-clause-came
returns-in-Wait-clause-came c b start x =
    let t = c.stretch-turn in
    subst (IsMutexLocking b c.args.lock start t.new.task) (sym c.waited_to.ensures)
    (round_on b c.args.lock start c.args.task.now t.new.task c.in-Wait.wait c.in-Wait.at t.new.run t.result
    (subst (IsLockAt (AskedIf b) c.args.lock start c.args.task.now) c.in-Wait.is x)
    (straight t.new.task t.new.run t.result t.ensures.turned.advances))

pub returns-in-Wait-clause-stands : goal.returns-in-Wait-clause-stands
returns-in-Wait-clause-stands c =
    let x = c.requires.at in (x.0, x.1, returns-in-Wait-clause-came c x.0 x.1 x.2)
