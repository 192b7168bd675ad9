-- Tied by laws to what is to be believed.
-- That views tell what the histories do: the law in terms of views says the same as the one in terms of histories.
use Rattle.std.specs.Prelude.{ℕ, ◌≡◌, ◌⊎◌, Bool, true, false, ◌&&◌, ◌||◌, Option, Some, None, List, [], ◌∷◌, ◌++◌}
use Rattle.wait_model.specs.{declared.watches.Watch.Watch, declared.watches.Entry.Entry, declared.steps.Step.Step}
use Rattle.wait_model.specs.{declared.calls.Ran.Ran, Watches.head_of, Words.entry_of, Words.spent_of, Laws.TryingBy}
use Rattle.wait_model.specs.{Runs.state_of, Readings.FailedLoad, Readings.ZeroLoad, Tryings.IsTrying, Owed.Owes}
use Rattle.wait_model.specs.Coverings.{Covering}
use Rattle.wait_model.specs.Views.{View, Walk, all_passed, all_cleared, concerns, covers}
use Rattle.wait_model.specs.Fold.{after, view_of, peeks, scanned}
use Rattle.wait_model.specs.Histories.{Lacks, UnlocksHeld, is_mark, publishes}
use Rattle.wait_model.specs.declared.watches.Watch.TheVariants as watch
use Rattle.wait_model.specs.declared.steps.Step.TheVariants as step

-- the unlock ends the walk that the view is in: the book shows all entries as passed, or the count is used up
abbrev pub ends_walk : Option Walk → Bool → View → Watch → ℕ → Bool
ends_walk None spent v c σ = false
ends_walk (Some w) spent v c σ = (spent || all_passed v w (λ _. false)) && concerns w c σ

-- the step ends a wake of c for tasks of state σ: such an unlock, or the last load of a look that found
-- no member
abbrev pub ends_wake : Step → View → Watch → ℕ → Bool
ends_wake (step.Unlock h spent) v c σ = ends_walk v.walk spent v c σ
ends_wake (step.Peek x w) v c σ = all_cleared (peeks v.duty.cleared x (entry_of w) c)
ends_wake (step.Scan h i w) v c σ = all_cleared (scanned v.duty.cleared h i w c)
ends_wake _ v c σ = false

-- no wake of c for tasks of state σ ends in these steps of a task that had the view v
abbrev pub Unended : Watch → ℕ → View → List Step → Type 0
Unended c σ v [] = Unit {0}
Unended c σ v (e ∷ es) = (ends_wake e v c σ ≡ false) × Unended c σ (after e v) es

-- the task has published c, and no wake of it for this state has ended since
pub record Owing (es : List Step) (c : Watch) (σ : ℕ) : Type 0 where
  pub before : List Step
  pub publish : Step
  pub later : List Step
  pub split : es ≡ before ++ publish ∷ later
  pub is_publish : publishes publish c ≡ true
  pub unended : Unended c σ (view_of (before ++ publish ∷ [])) later

-- the view has a failed load exactly where the history has one, and keeps the spent count that the last
-- lock before it found
abbrev pub FailedTold : Type 0
FailedTold = (es : List Step) (x : ℕ) (c : Watch) →
    ((n : ℕ) → (view_of es).checks.failed x c ≡ Some n → (l : FailedLoad es x c)
    × (n ≡ (view_of l.before).checks.found (head_of c)))
    × ((l : FailedLoad es x c)
    → (view_of es).checks.failed x c ≡ Some ((view_of l.before).checks.found (head_of c)))

-- the same of a load in the hold in which the state was stored, with the count that the hold's lock found
abbrev pub ZeroTold : Type 0
ZeroTold = (es : List Step) (x : ℕ) (c : Watch) →
    ((n : ℕ) → (view_of es).checks.zero_failed x c ≡ Some n → (l : ZeroLoad es x c) × (n ≡ spent_of l.word))
    × ((l : ZeroLoad es x c) → (view_of es).checks.zero_failed x c ≡ Some (spent_of l.word))

-- the view tries a bit exactly where the history does
abbrev pub TryingTold : Type 0
TryingTold = (entry : ℕ → Option Entry) (a : ℕ) (es : List Step) (w b : ℕ)
    → (TryingBy entry a (view_of es) (watch.Bit w b) → IsTrying entry a es w b)
    × (IsTrying entry a es w b → TryingBy entry a (view_of es) (watch.Bit w b))

-- the view owes a wake exactly where the history does
abbrev pub OwingTold : Type 0
OwingTold = (es : List Step) (c : Watch) (σ : ℕ) → ((view_of es).duty.owes c σ ≡ true → Owing es c σ)
    × (Owing es c σ → (view_of es).duty.owes c σ ≡ true)

-- What is owing by the view is owed by the history. The other way round too, where the task gave back only locks that
-- it held, as by allowed steps; without bookmarks always.
abbrev pub OwesTold : Type 0
OwesTold = (es : List Step) (c : Watch) (σ : ℕ) → (Owing es c σ → Owes es c σ)
    × (Lacks is_mark es ⊎ UnlocksHeld es → Owes es c σ → Owing es c σ)

-- where the view covers an entry the history does, and without bookmarks the other way round too
abbrev pub CoveringTold : Type 0
CoveringTold = (es : List Step) (x : ℕ) (e : Entry) (σ : ℕ)
    → (covers (view_of es) x e σ ≡ true → Covering es x e σ)
    × (Lacks is_mark es → Covering es x e σ → covers (view_of es) x e σ ≡ true)

-- in every state that a run reaches, each task's view is that of its history
abbrev pub ViewsTold : Type 0
ViewsTold = (run : List Ran) (a : ℕ) → (state_of run).table.view a
    ≡ view_of ((state_of run).table.history a)
