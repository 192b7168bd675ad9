use Rattle.std.proofs.Common.{sym, subst}
use Rattle.wait_class.specs.declared.stages.Turn.TheVariants as turn
use Rattle.std.specs.Prelude.{MatchBool}
use Rattle.futex_table.specs.declared.lock_stretches.LockStage.{LockStage}
use Rattle.futex_table.specs.LockStretches.{AskedIf, IsLockAsleep, IsLockAt}
use Rattle.futex_table.proofs.LockStretching.{either_stands, looked_awake, round_lands, round_woke}
use Rattle.futex_table.proofs.lock_stretches.woke_mutex_lock.Goals as goal

pub woke-requires-clause-asleep : goal.woke-requires-clause-asleep
woke-requires-clause-asleep c =
    let x = c.requires.asleep in
    round_lands x.0 c.args.lock x.1 c.args.task.now c.in-Wait.wait (turn.Asleep c.in-Wait.at)
    (subst (IsLockAsleep (AskedIf x.0) c.args.lock x.1 c.args.task.now) c.in-Wait.is x.2)

pub returns-clause-came : goal.returns-clause-came
returns-clause-came c b start x =
    let new = c.woke.new.task in
    subst (λ (s : LockStage). MatchBool c.woke.result (IsLockAt (AskedIf b) c.args.lock start new s)
    (IsLockAsleep (AskedIf b) c.args.lock start new s)) (sym c.in-Wait.is)
    (round_woke b c.args.lock start c.args.task.now new c.in-Wait.wait c.in-Wait.at
    (looked_awake c.args.task.now new c.woke.ensures.looked.0 c.woke.ensures.looked.1) c.woke.result
    c.woke.ensures.advances
    (subst (IsLockAsleep (AskedIf b) c.args.lock start c.args.task.now) c.in-Wait.is x))

pub returns-clause-stands : goal.returns-clause-stands
returns-clause-stands c =
    let x = c.requires.asleep in
    either_stands c.woke.result x.0 c.args.lock x.1 c.woke.new.task c.args.stage
    (returns-clause-came c x.0 x.1 x.2)
