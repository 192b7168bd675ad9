-- The steps among looks: each is a look at an entry word in a hold.
use Rattle.std.specs.Prelude.{ℕ, List, [], ◌∷◌}
use Rattle.wait_model.specs.declared.steps.Step.{Step}
use Rattle.wait_model.specs.declared.steps.Step.TheVariants as step
use Rattle.wait_rule.specs.{declared.journal.Item.Item, Items.steps_of, Transitions.AreLooks}
use Rattle.wait_rule.specs.declared.journal.Item.TheVariants as item

-- so what is so of no step, and stays so in front of such a look, is so of them all
pub looks_all : (P : List Step → Type 0) → P [] → ((x w : ℕ) (es : List Step) → P es → P (step.Saw x w ∷ es))
    → (xs : List Item) → AreLooks xs → P (steps_of xs)
looks_all P none more [] l = none
looks_all P none more (item.Made (step.Saw x w) ∷ xs) l = more x w (steps_of xs) (looks_all P none more xs l.1)
looks_all P none more (item.Made e ∷ xs) l = absurd l.0
looks_all P none more (item.Tally p n w ∷ xs) l = absurd l.0
looks_all P none more (item.Piped k a w ∷ xs) l = absurd l.0
looks_all P none more (x ∷ xs) l = looks_all P none more xs l.1
