use Rattle.std.proofs.Common.{subst, sym}
use Rattle.std.specs.Prelude.{◌||◌}
use Rattle.wq_checked.specs.{Calls.CameFrom, Calls.IsRunningSound, declared.calls.Running.Running}
use Rattle.wq_checked.specs.Advancing.{cell_left, cell_shown, swake_left, swake_shown, wake_left, wake_shown}
use Rattle.wq_checked.proofs.{CellTurns.cell_turns, Going.went_as, SwakeTurns.swake_turns, WakeTurns.wake_turns}
use Rattle.wq_checked.proofs.advances.go_on.Goals as goal

pub returns-in-Wake-clause-sound : goal.returns-in-Wake-clause-sound
returns-in-Wake-clause-sound c =
    let t = c.wake_stretch-turn in
    subst (λ (r : Running). IsRunningSound r c.args.kept.now t.new.task) (sym c.wake_leaves.ensures.left)
    (wake_turns.sound c.args.kept.now c.args.task.now t.new.task c.in-Wake.run' t.new.run c.in-Wake.stage t.result
    (subst (λ (r : Running). IsRunningSound r c.args.kept.now c.args.task.now) c.in-Wake.is c.requires.sound)
    t.ensures.turned)

pub returns-in-Wake-clause-goes : goal.returns-in-Wake-clause-goes
returns-in-Wake-clause-goes c may start first came =
    let t = c.wake_stretch-turn in
    went_as (c.args.asks || may) start first t.new.task c.wake_leaves.result.0 (wake_left t.new.run t.result)
    c.wake_leaves.result.1 (wake_shown t.new.run t.result) c.wake_leaves.ensures.left c.wake_leaves.ensures.shown
    (wake_turns.goes may (c.args.asks || may) start first c.args.task.now t.new.task c.in-Wake.run' t.new.run c.in-Wake.stage
    t.result (subst (λ (r : Running). CameFrom may start first c.args.task.now r) c.in-Wake.is came) t.ensures.turned)

pub returns-in-Swake-clause-sound : goal.returns-in-Swake-clause-sound
returns-in-Swake-clause-sound c =
    let t = c.swake_stretch-turn in
    subst (λ (r : Running). IsRunningSound r c.args.kept.now t.new.task) (sym c.swake_leaves.ensures.left)
    (swake_turns.sound c.args.kept.now c.args.task.now t.new.task c.in-Swake.run' t.new.run c.in-Swake.stage t.result
    (subst (λ (r : Running). IsRunningSound r c.args.kept.now c.args.task.now) c.in-Swake.is c.requires.sound)
    t.ensures.turned)

pub returns-in-Swake-clause-goes : goal.returns-in-Swake-clause-goes
returns-in-Swake-clause-goes c may start first came =
    let t = c.swake_stretch-turn in
    went_as (c.args.asks || may) start first t.new.task c.swake_leaves.result.0 (swake_left t.new.run t.result)
    c.swake_leaves.result.1 (swake_shown t.new.run t.result) c.swake_leaves.ensures.left c.swake_leaves.ensures.shown
    (swake_turns.goes may (c.args.asks || may) start first c.args.task.now t.new.task c.in-Swake.run' t.new.run c.in-Swake.stage
    t.result (subst (λ (r : Running). CameFrom may start first c.args.task.now r) c.in-Swake.is came) t.ensures.turned)

pub returns-in-Cell-clause-sound : goal.returns-in-Cell-clause-sound
returns-in-Cell-clause-sound c =
    let t = c.cell_stretch-turn in
    subst (λ (r : Running). IsRunningSound r c.args.kept.now t.new.task) (sym c.cell_leaves.ensures.left)
    (cell_turns.sound c.args.kept.now c.args.task.now t.new.task c.in-Cell.run' t.new.run c.in-Cell.stage t.result
    (subst (λ (r : Running). IsRunningSound r c.args.kept.now c.args.task.now) c.in-Cell.is c.requires.sound)
    t.ensures.turned)

pub returns-in-Cell-clause-goes : goal.returns-in-Cell-clause-goes
returns-in-Cell-clause-goes c may start first came =
    let t = c.cell_stretch-turn in
    went_as (c.args.asks || may) start first t.new.task c.cell_leaves.result.0 (cell_left t.new.run t.result)
    c.cell_leaves.result.1 (cell_shown t.new.run t.result) c.cell_leaves.ensures.left c.cell_leaves.ensures.shown
    (cell_turns.goes may (c.args.asks || may) start first c.args.task.now t.new.task c.in-Cell.run' t.new.run c.in-Cell.stage
    t.result (subst (λ (r : Running). CameFrom may start first c.args.task.now r) c.in-Cell.is came) t.ensures.turned)
