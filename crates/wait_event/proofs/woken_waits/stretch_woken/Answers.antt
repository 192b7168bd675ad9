use Rattle.std.proofs.Common.{subst, sym}
use Rattle.wait_event.specs.{WokenWaits.Hears, WokenWaits.IsHearing, declared.woken_waits.WokenStage.WokenStage}
use Rattle.wait_event.specs.declared.woken_waits.WokenTurn.TheVariants as turn
use Rattle.wait_event.specs.declared.woken_waits.WokenStage.TheVariants as stage
use Rattle.wait_event.proofs.Hearing.Steps.{clear_hears, run_hears, state_hears}
use Rattle.wait_event.proofs.woken_waits.stretch_woken.Goals as goal

pub returns-in-State : goal.returns-in-State
returns-in-State c = subst
    (λ (s : WokenStage). Hears c.args.task.now c.set_state.new.task c.args.state s (turn.Again stage.Flag))
    (sym c.in-State.is)
    (state_hears c.args.task.now c.set_state.new.task c.args.state c.mask.result c.mask.ensures
    (subst (IsHearing c.args.task.now c.args.state) c.in-State.is c.requires.at) c.set_state.ensures.step
    c.set_state.ensures.carries)

pub returns-in-Run : goal.returns-in-Run
returns-in-Run c = subst
    (λ (s : WokenStage). Hears c.args.task.now c.set_state-in-Run.new.task c.args.state s (turn.Again stage.Clear))
    (sym c.in-Run.is)
    (run_hears c.args.task.now c.set_state-in-Run.new.task c.args.state
    (subst (IsHearing c.args.task.now c.args.state) c.in-Run.is c.requires.at) c.set_state-in-Run.ensures.step
    c.set_state-in-Run.ensures.carries)

pub returns-in-Clear : goal.returns-in-Clear
returns-in-Clear c = subst
    (λ (s : WokenStage). Hears c.args.task.now c.woken_clear.new.task c.args.state s turn.Done) (sym c.in-Clear.is)
    (clear_hears c.args.task.now c.woken_clear.new.task c.args.state
    (subst (IsHearing c.args.task.now c.args.state) c.in-Clear.is c.requires.at) c.woken_clear.ensures.step
    c.woken_clear.ensures.carries)
