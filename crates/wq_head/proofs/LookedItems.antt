-- What holds of no steps, and with each look at an entry's word behind it, holds of the steps of looks.
use Rattle.std.specs.Prelude.{ℕ, List, [], ◌∷◌}
use Rattle.wait_model.specs.declared.steps.Step.{Step}
use Rattle.wait_model.specs.declared.steps.Step.TheVariants as step
use Rattle.wait_rule.specs.{declared.journal.Item.Item, Items.steps_of, Transitions.AreLooks}
use Rattle.wait_rule.specs.declared.journal.Item.TheVariants as item

pub looks_by : (P : List Step → Type 0) → P [] → ((y w : ℕ) (es : List Step) → P es → P (step.Saw y w ∷ es))
    → (xs : List Item) → AreLooks xs → P (steps_of xs)
looks_by P none more [] l = none
looks_by P none more (item.Made (step.Saw y w) ∷ xs) l = more y w (steps_of xs) (looks_by P none more xs l.1)
looks_by P none more (item.Made e ∷ xs) l = absurd l.0
looks_by P none more (item.Tally p n w ∷ xs) l = absurd l.0
looks_by P none more (item.Piped j a w ∷ xs) l = absurd l.0
looks_by P none more (_ ∷ xs) l = looks_by P none more xs l.1
