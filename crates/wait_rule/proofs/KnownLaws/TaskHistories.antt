-- A task's history after a step.
use Rattle.std.proofs.Common.{◌∙◌, ap}
use Rattle.std.specs.Prelude.{◌≡◌, List, [], ◌∷◌, ◌++◌}
use Rattle.wait_model.specs.{declared.steps.Step.Step, declared.tasks.Sleep.Sleep}
use Rattle.wait_model.specs.declared.steps.Step.TheVariants as step
use Rattle.wait_rule.specs.declared.journal.Item.TheVariants as item
use Rattle.wait_rule.specs.Known.{Known}
use Rattle.wait_rule.specs.Says.{added, history_of, HasSlept}
use Rattle.wait_rule.proofs.TableSteps.ItemLists.{steps_append}

pub history_after : (old new : Known) (e : Step) → new ≡ added old (item.Made e)
    → history_of new ≡ history_of old ++ e ∷ []
history_after old new e is = ap history_of is ∙ steps_append old.view.items (item.Made e ∷ [])

pub history_slept : (old new : Known) (answer : Sleep) (h : HasSlept old new answer)
    → history_of new ≡ history_of old ++ step.Sleep h.found ∷ []
history_slept old new answer h = ap history_of h.is
    ∙ (steps_append old.view.items (item.Made (step.Sleep h.found) ∷ h.looks)
    ∙ ap (λ (es : List Step). history_of old ++ step.Sleep h.found ∷ es) h.no_steps)
