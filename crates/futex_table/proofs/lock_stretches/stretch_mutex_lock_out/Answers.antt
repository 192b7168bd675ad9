use Rattle.std.proofs.Common.{sym, subst}
use Rattle.wait_class.specs.declared.stages.Turn.TheVariants as turn
use Rattle.std.specs.Prelude.{true}
use Rattle.futex_table.specs.LockStretches.{AskedIf, IsLockAt, IsMutexLocking}
use Rattle.futex_table.proofs.LockStretching.{may_be_asked, round_lands, round_on}
use Rattle.futex_table.proofs.lock_stretches.stretch_mutex_lock_out.Goals as goal

pub stretch_out-turn-requires-clause-at : goal.stretch_out-turn-requires-clause-at
stretch_out-turn-requires-clause-at c =
    let x = c.requires.at in
    round_lands x.0 c.args.lock x.1 c.args.task.now c.in-Wait.wait (turn.Again c.in-Wait.at)
    (subst (IsLockAt (AskedIf x.0) c.args.lock x.1 c.args.task.now) c.in-Wait.is x.2)

pub returns-in-Wait-clause-came : goal.returns-in-Wait-clause-came
returns-in-Wait-clause-came c start x =
    let t = c.stretch_out-turn in
    subst (IsMutexLocking true c.args.lock start t.new.task) (sym c.waited_to.ensures)
    (round_on true c.args.lock start c.args.task.now t.new.task c.in-Wait.wait c.in-Wait.at t.new.call t.result
    (subst (IsLockAt (Unit {0}) c.args.lock start c.args.task.now) c.in-Wait.is x) t.ensures.way)

pub returns-in-Wait-clause-stands : goal.returns-in-Wait-clause-stands
returns-in-Wait-clause-stands c =
    let x = c.requires.at in
    let t = c.stretch_out-turn in (
      true,
      x.1,
      subst (IsMutexLocking true c.args.lock x.1 t.new.task) (sym c.waited_to.ensures)
          (round_on true c.args.lock x.1 c.args.task.now t.new.task c.in-Wait.wait c.in-Wait.at t.new.call t.result
          (may_be_asked x.0 c.args.lock x.1 c.args.task.now c.in-Wait.wait (turn.Again c.in-Wait.at)
          (subst (IsLockAt (AskedIf x.0) c.args.lock x.1 c.args.task.now) c.in-Wait.is x.2)) t.ensures.way),
    )
