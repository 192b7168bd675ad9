use Rattle.std.proofs.Common.{sym, subst}
use Rattle.wait_class.specs.declared.stages.Turn.TheVariants as turn
use Rattle.std.specs.Prelude.{true}
use Rattle.futex_table.specs.{CondStretches.IsCondWaiting, CondStretches.IsCondAt, LockStretches.AskedIf}
use Rattle.futex_table.proofs.CondStretching.{cond_may_be_asked, wait_lands, wait_on}
use Rattle.futex_table.proofs.cond_stretches.stretch_cond_wait_out.Goals as goal

pub stretch_out-turn-requires-clause-at : goal.stretch_out-turn-requires-clause-at
stretch_out-turn-requires-clause-at c =
    let x = c.requires.at in
    wait_lands x.0 c.args.wait x.1 c.args.task.now c.in-Wait.run' (turn.Again c.in-Wait.at)
    (subst (IsCondAt (AskedIf x.0) c.args.wait x.1 c.args.task.now) c.in-Wait.is x.2)

pub returns-in-Wait-clause-came : goal.returns-in-Wait-clause-came
returns-in-Wait-clause-came c start x =
    let t = c.stretch_out-turn in
    subst (IsCondWaiting true c.args.wait start t.new.task) (sym c.awaited_to.ensures)
    (wait_on true c.args.wait start c.args.task.now t.new.task c.in-Wait.run' c.in-Wait.at t.new.call t.result
    (subst (IsCondAt (Unit {0}) c.args.wait start c.args.task.now) c.in-Wait.is x) t.ensures.way)

pub returns-in-Wait-clause-stands : goal.returns-in-Wait-clause-stands
returns-in-Wait-clause-stands c =
    let x = c.requires.at in
    let t = c.stretch_out-turn in (
      true,
      x.1,
      subst (IsCondWaiting true c.args.wait x.1 t.new.task) (sym c.awaited_to.ensures)
          (wait_on true c.args.wait x.1 c.args.task.now t.new.task c.in-Wait.run' c.in-Wait.at t.new.call t.result
          (cond_may_be_asked x.0 c.args.wait x.1 c.args.task.now c.in-Wait.run' (turn.Again c.in-Wait.at)
          (subst (IsCondAt (AskedIf x.0) c.args.wait x.1 c.args.task.now) c.in-Wait.is x.2)) t.ensures.way),
    )

pub returns-in-First-clause-came : goal.returns-in-First-clause-came
returns-in-First-clause-came c start x = c.store_back.ensures.came true start
    (subst (IsCondAt (Unit {0}) c.args.wait start c.args.task.now) c.in-First.is x)

pub returns-in-First-clause-stands : goal.returns-in-First-clause-stands
returns-in-First-clause-stands c =
    let x = c.requires.at in (
      x.0,
      x.1,
      c.store_back.ensures.came x.0 x.1
          (subst (IsCondAt (AskedIf x.0) c.args.wait x.1 c.args.task.now) c.in-First.is x.2),
    )

pub returns-in-Give-clause-came : goal.returns-in-Give-clause-came
returns-in-Give-clause-came c start x = c.give_back.ensures.came true start
    (subst (IsCondAt (Unit {0}) c.args.wait start c.args.task.now) c.in-Give.is x)

pub returns-in-Give-clause-stands : goal.returns-in-Give-clause-stands
returns-in-Give-clause-stands c =
    let x = c.requires.at in (
      x.0,
      x.1,
      c.give_back.ensures.came x.0 x.1
          (subst (IsCondAt (AskedIf x.0) c.args.wait x.1 c.args.task.now) c.in-Give.is x.2),
    )

pub returns-in-Lock-clause-came : goal.returns-in-Lock-clause-came
returns-in-Lock-clause-came c start x = c.relock.ensures.came true start
    (subst (IsCondAt (Unit {0}) c.args.wait start c.args.task.now) c.in-Lock.is x)
