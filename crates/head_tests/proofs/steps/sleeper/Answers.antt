use Rattle.std.proofs.Common.{◌∙◌, ap, [], ◌∷◌, ◌++◌, List}
use Rattle.wait_model.specs.declared.steps.Step.{Step}
use Rattle.wait_model.specs.declared.steps.Step.TheVariants as step
use Rattle.wait_rule.proofs.KnownLaws.TaskHistories.{history_after, history_slept}
use Rattle.head_tests.proofs.steps.sleeper.Goals as goal

pub returns-clause-slept : goal.returns-clause-slept
returns-clause-slept g c =
    let s = c.schedule.ensures.step in (
      s.found,
      history_slept c.set_state.new.task c.schedule.new.task c.schedule.result s
          ∙ ap (λ (es : List Step). es ++ step.Sleep s.found ∷ [])
          (history_after c.args.task c.set_state.new.task (step.State 2) c.set_state.ensures.step
          ∙ ap (λ (es : List Step). es ++ step.State 2 ∷ []) c.requires.empty),
    )
