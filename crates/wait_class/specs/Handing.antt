-- To be believed.
-- Which lock a part of a call gave back, whose next waiter is still to be woken.
use Rattle.std.specs.Prelude.{ℕ, ◌≡◌, List, [], ◌∷◌, ◌++◌}
use Rattle.wait_model.specs.{declared.layout.TheConstants.HEADS, declared.steps.Step.Step}
use Rattle.wait_model.specs.declared.steps.Step.TheVariants as step
use Rattle.wait_rule.specs.{Known.Known, Says.history_of}

-- the head whose lock these steps gave back last, or this number where they gave none back
abbrev pub given_back_by : Step → ℕ → ℕ
given_back_by (step.Unlock n spent) h = n
given_back_by _ h = h

abbrev pub last_given_back : List Step → ℕ → ℕ
last_given_back [] h = h
last_given_back (e ∷ es) h = last_given_back es (given_back_by e h)

-- This is the head whose lock the task gave back last meanwhile, or `HEADS` where it gave none back.
pub record LastGiven (old new : Known) (h : ℕ) : Type 0 where
  pub steps : List Step
  pub history : history_of new ≡ history_of old ++ steps
  pub last : h ≡ last_given_back steps HEADS
