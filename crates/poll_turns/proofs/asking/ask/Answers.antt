use Rattle.std.proofs.Common.{Err, ◌∙◌, ap, refl}
use Rattle.wait_model.specs.Tasks.{pending, task_of}
use Rattle.poll_turns.specs.PollTurns.{PollAskedIf}
use Rattle.poll_turns.proofs.Loading.{ask_hit, ask_miss}
use Rattle.wait_model.specs.declared.steps.Step.TheVariants as step
use Rattle.poll_turns.specs.declared.stages.PollStage.TheVariants as stage
use Rattle.poll_turns.specs.declared.stages.PollUntil.TheVariants as until
use Rattle.poll_wait.specs.declared.turns.PollEnd.TheVariants as poll_end
use Rattle.poll_turns.proofs.Showing.{quiet_again, step_made, step_quiet}
use Rattle.poll_turns.proofs.asking.ask.Goals as goal

pub returns-then-pending_state-clause-goes : goal.returns-then-pending_state-clause-goes
returns-then-pending_state-clause-goes c = record {
  came = λ b start x. ask_hit (PollAskedIf b) c.args.poll c.requires.poll start c.args.task.now
      c.load_own-own.new.task c.args.loads x c.load_own-own.result.0 c.load_own-own.ensures.step
      c.load_own-own.ensures.carries c.pending_state.result
      (c.pending_state.ensures ∙ ap (λ (σ : _). pending σ (task_of c.load_own-own.result.0)) c.mask.ensures)
      c.if-pending_state.true;
  did = quiet_again c.args.poll c.args.task.now c.load_own-own.new.task (stage.Ask c.args.loads)
      (stage.TakeFirst (until.Over (Err (poll_end.Signal c.args.loads.first c.args.loads.second))))
      (step_quiet c.args.task.now c.load_own-own.new.task (step.Look c.load_own-own.result.0) c.load_own-own.ensures.step refl refl)
      (step_made c.args.task.now c.load_own-own.new.task (step.Look c.load_own-own.result.0) c.load_own-own.ensures.step);
}

pub returns-clause-goes : goal.returns-clause-goes
returns-clause-goes c = record {
  came = λ b start x. ask_miss (PollAskedIf b) c.args.poll c.requires.poll start c.args.task.now
      c.load_own-own.new.task c.args.loads x c.load_own-own.result.0 c.load_own-own.ensures.step
      c.load_own-own.ensures.carries c.pending_state.result
      (c.pending_state.ensures ∙ ap (λ (σ : _). pending σ (task_of c.load_own-own.result.0)) c.mask.ensures)
      c.if-pending_state.false;
  did = quiet_again c.args.poll c.args.task.now c.load_own-own.new.task (stage.Ask c.args.loads)
      (stage.Sleep c.none.result)
      (step_quiet c.args.task.now c.load_own-own.new.task (step.Look c.load_own-own.result.0) c.load_own-own.ensures.step refl refl)
      (step_made c.args.task.now c.load_own-own.new.task (step.Look c.load_own-own.result.0) c.load_own-own.ensures.step);
}
