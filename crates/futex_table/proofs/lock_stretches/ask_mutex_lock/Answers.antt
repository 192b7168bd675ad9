use Rattle.std.proofs.Common.{sym, subst}
use Rattle.wait_class.specs.declared.stages.Turn.TheVariants as turn
use Rattle.std.specs.Prelude.{true}
use Rattle.futex_table.specs.LockStretches.{AskedIf, IsLockAt, IsMutexLocking}
use Rattle.futex_table.proofs.LockStretching.{may_be_asked, round_asked, round_lands}
use Rattle.futex_table.proofs.lock_stretches.ask_mutex_lock.Goals as goal

pub ask-requires-clause-at : goal.ask-requires-clause-at
ask-requires-clause-at c =
    let x = c.requires.at in
    round_lands x.0 c.args.lock x.1 c.args.task.now c.in-Wait.wait (turn.Again c.in-Wait.at)
    (subst (IsLockAt (AskedIf x.0) c.args.lock x.1 c.args.task.now) c.in-Wait.is x.2)

pub returns-in-Some-clause-came : goal.returns-in-Some-clause-came
returns-in-Some-clause-came c start x =
    let t = c.ask in
    subst (IsMutexLocking true c.args.lock start t.new.task) (sym c.waited_to.ensures)
    (round_asked c.args.lock start c.args.task.now t.new.task c.in-Wait.wait t.new.call c.in-Wait.at c.in-Some.turn
    (subst (IsLockAt (Unit {0}) c.args.lock start c.args.task.now) c.in-Wait.is x) c.in-Some.ensures.asked)

pub returns-in-Some-clause-stands : goal.returns-in-Some-clause-stands
returns-in-Some-clause-stands c =
    let x = c.requires.at in
    let t = c.ask in (
      true,
      x.1,
      subst (IsMutexLocking true c.args.lock x.1 t.new.task) (sym c.waited_to.ensures)
          (round_asked c.args.lock x.1 c.args.task.now t.new.task c.in-Wait.wait t.new.call c.in-Wait.at c.in-Some.turn
          (may_be_asked x.0 c.args.lock x.1 c.args.task.now c.in-Wait.wait (turn.Again c.in-Wait.at)
          (subst (IsLockAt (AskedIf x.0) c.args.lock x.1 c.args.task.now) c.in-Wait.is x.2)) c.in-Some.ensures.asked),
    )
