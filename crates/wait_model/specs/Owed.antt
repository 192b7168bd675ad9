-- To be believed.
-- Which wakes a task owes, plainly over its history: from its publish until a wake of it has ended.
use Rattle.std.specs.Prelude.{ℕ, ◌≡◌, ◌<◌, ◌⊎◌, true, List, [], ◌∷◌, ◌++◌}
use Rattle.wait_model.specs.{declared.layout.TheConstants.ENTRIES, declared.watches.Watch.Watch}
use Rattle.wait_model.specs.{declared.steps.Step.Step, Histories.Since, Histories.publishes}
use Rattle.wait_model.specs.Walks.{WalkHold, HasPassed, GoneBy, finds_off_head, looks_anew}
use Rattle.wait_model.specs.declared.steps.Step.TheVariants as step

-- a step after this history ends a wake of c for tasks of state σ: an unlock of a walk that used up its count
-- or is past all entry words, or the last load of a look without the lock that found none
abbrev pub EndsWake : List Step → Step → Watch → ℕ → Type 0
EndsWake es (step.Unlock h spent) c σ = (k : WalkHold es c σ)
    × ((spent ≡ true) ⊎ ((x : ℕ) → x < ENTRIES → HasPassed (GoneBy es c σ) (λ _. ⊥) es c σ k x))
EndsWake es (step.Peek y w) c σ = (x : ℕ) → x < ENTRIES
    → Since (finds_off_head c x) (looks_anew c) (es ++ step.Peek y w ∷ [])
EndsWake es (step.Scan h i w) c σ = (x : ℕ) → x < ENTRIES
    → Since (finds_off_head c x) (looks_anew c) (es ++ step.Scan h i w ∷ [])
EndsWake es _ c σ = ⊥

-- the task has published c, and no wake of it for this state has ended since
pub record Owes (es : List Step) (c : Watch) (σ : ℕ) : Type 0 where
  pub before : List Step
  pub publish : Step
  pub later : List Step
  pub split : es ≡ before ++ publish ∷ later
  pub is_publish : publishes publish c ≡ true
  pub unended : (front : List Step) (end : Step) (rest : List Step) → later ≡ front ++ end ∷ rest
      → EndsWake (before ++ publish ∷ front) end c σ → ⊥
