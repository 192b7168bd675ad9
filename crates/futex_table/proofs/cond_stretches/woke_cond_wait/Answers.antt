use Rattle.std.proofs.Common.{sym, subst}
use Rattle.std.specs.Prelude.{MatchBool, false}
use Rattle.wait_class.specs.declared.stages.Turn.TheVariants as turn
use Rattle.futex_table.specs.{declared.cond_stretches.CondStage.CondStage, CondStretches.IsCondAsleep}
use Rattle.futex_table.specs.{CondStretches.IsCondAt, LockStretches.AskedIf}
use Rattle.futex_table.proofs.CondStretching.{either_awaits, relock_woke, wait_lands, wait_woke}
use Rattle.futex_table.proofs.LockStretching.{looked_awake}
use Rattle.futex_table.proofs.cond_stretches.woke_cond_wait.Goals as goal

pub woke-requires-clause-asleep : goal.woke-requires-clause-asleep
woke-requires-clause-asleep c =
    let x = c.requires.asleep in
    wait_lands x.0 c.args.wait x.1 c.args.task.now c.in-Wait.run' (turn.Asleep c.in-Wait.at)
    (subst (IsCondAsleep (AskedIf x.0) c.args.wait x.1 c.args.task.now) c.in-Wait.is x.2)

pub returns-in-Wait-clause-came : goal.returns-in-Wait-clause-came
returns-in-Wait-clause-came c b start x =
    let new = c.woke.new.task in
    subst (λ (s : CondStage). MatchBool c.woke.result (IsCondAt (AskedIf b) c.args.wait start new s)
    (IsCondAsleep (AskedIf b) c.args.wait start new s)) (sym c.in-Wait.is)
    (wait_woke b c.args.wait start c.args.task.now new c.in-Wait.run' c.in-Wait.at
    (looked_awake c.args.task.now new c.woke.ensures.looked.0 c.woke.ensures.looked.1) c.woke.result
    c.woke.ensures.advances
    (subst (IsCondAsleep (AskedIf b) c.args.wait start c.args.task.now) c.in-Wait.is x))

pub returns-in-Wait-clause-stands : goal.returns-in-Wait-clause-stands
returns-in-Wait-clause-stands c =
    let x = c.requires.asleep in
    either_awaits c.woke.result x.0 c.args.wait x.1 c.woke.new.task c.args.stage
    (returns-in-Wait-clause-came c x.0 x.1 x.2)

pub woke_mutex_lock-requires-clause-asleep : goal.woke_mutex_lock-requires-clause-asleep
woke_mutex_lock-requires-clause-asleep c =
    let x = c.requires.asleep in
    let y = subst (IsCondAsleep (AskedIf x.0) c.args.wait x.1 c.args.task.now) c.in-Lock.is x.2 in
    (false, y.waited, y.locks)

pub returns-in-Lock-clause-came : goal.returns-in-Lock-clause-came
returns-in-Lock-clause-came c b start x =
    let new = c.woke_mutex_lock.new.task in
    let y = subst (IsCondAsleep (AskedIf b) c.args.wait start c.args.task.now) c.in-Lock.is x in
    subst (λ (s : CondStage). MatchBool c.woke_mutex_lock.result (IsCondAt (AskedIf b) c.args.wait start new s)
    (IsCondAsleep (AskedIf b) c.args.wait start new s)) (sym c.in-Lock.is)
    (relock_woke (AskedIf b) c.args.wait start c.args.task.now new c.in-Lock.field-0 c.woke_mutex_lock.result
    c.in-Lock.at y (c.woke_mutex_lock.ensures.came false y.waited y.locks))

pub returns-in-Lock-clause-stands : goal.returns-in-Lock-clause-stands
returns-in-Lock-clause-stands c =
    let x = c.requires.asleep in
    either_awaits c.woke_mutex_lock.result x.0 c.args.wait x.1 c.woke_mutex_lock.new.task c.args.stage
    (returns-in-Lock-clause-came c x.0 x.1 x.2)
