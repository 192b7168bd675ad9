use Rattle.std.proofs.Common.{sym, subst}
use Rattle.wait_class.specs.declared.stages.Turn.TheVariants as turn
use Rattle.wait_leave.specs.OnTheWay.{straight}
use Rattle.futex_table.specs.{CondStretches.IsCondWaiting, CondStretches.IsCondAt, LockStretches.AskedIf}
use Rattle.futex_table.proofs.CondStretching.{wait_lands, wait_on}
use Rattle.futex_table.proofs.cond_stretches.stretch_cond_wait.Goals as goal

pub stretch-turn-requires-clause-at : goal.stretch-turn-requires-clause-at
stretch-turn-requires-clause-at c =
    let x = c.requires.at in
    wait_lands x.0 c.args.wait x.1 c.args.task.now c.in-Wait.run' (turn.Again c.in-Wait.at)
    (subst (IsCondAt (AskedIf x.0) c.args.wait x.1 c.args.task.now) c.in-Wait.is x.2)

pub returns-in-Wait-clause-came : goal.returns-in-Wait-clause-came
returns-in-Wait-clause-came c b start x =
    let t = c.stretch-turn in
    subst (IsCondWaiting b c.args.wait start t.new.task) (sym c.awaited_to.ensures)
    (wait_on b c.args.wait start c.args.task.now t.new.task c.in-Wait.run' c.in-Wait.at t.new.run t.result
    (subst (IsCondAt (AskedIf b) c.args.wait start c.args.task.now) c.in-Wait.is x)
    (straight t.new.task t.new.run t.result t.ensures.turned.advances))

pub returns-in-Wait-clause-stands : goal.returns-in-Wait-clause-stands
returns-in-Wait-clause-stands c =
    let x = c.requires.at in (x.0, x.1, returns-in-Wait-clause-came c x.0 x.1 x.2)

pub returns-in-First-clause-came : goal.returns-in-First-clause-came
returns-in-First-clause-came c b start x = c.store_back.ensures.came b start
    (subst (IsCondAt (AskedIf b) c.args.wait start c.args.task.now) c.in-First.is x)

pub returns-in-First-clause-stands : goal.returns-in-First-clause-stands
returns-in-First-clause-stands c =
    let x = c.requires.at in (x.0, x.1, returns-in-First-clause-came c x.0 x.1 x.2)

pub returns-in-Give-clause-came : goal.returns-in-Give-clause-came
returns-in-Give-clause-came c b start x = c.give_back.ensures.came b start
    (subst (IsCondAt (AskedIf b) c.args.wait start c.args.task.now) c.in-Give.is x)

pub returns-in-Give-clause-stands : goal.returns-in-Give-clause-stands
returns-in-Give-clause-stands c =
    let x = c.requires.at in (x.0, x.1, returns-in-Give-clause-came c x.0 x.1 x.2)
