-- To be believed.
-- A look at all member words of a head without the lock.
use Rattle.std.specs.Prelude.{ℕ, zero, suc, ◌≡◌, ◌≢◌, ◌-◌, Bool, true, false, List, [], ◌∷◌, ◌++◌}
use Rattle.wait_model.specs.{declared.layout.TheConstants.MEMBER_WORDS, declared.watches.Watch.Watch}
use Rattle.wait_model.specs.{declared.steps.Step.Step, Watches.head_of, Fold.view_of, Owed.Owes}
use Rattle.wait_model.specs.declared.watches.Watch.TheVariants as watch
use Rattle.wait_model.specs.declared.steps.Step.TheVariants as step

-- loads of the n member words of head h from word i on, in order, each of which finds no bit
abbrev pub empty_scans : ℕ → ℕ → ℕ → List Step
empty_scans h i zero = []
empty_scans h i (suc n) = step.Scan h i 0 ∷ empty_scans h (suc i) n

-- the same of all member words of the head
abbrev pub empty_look : ℕ → List Step
empty_look h = empty_scans h 0 MEMBER_WORDS

-- what is owed after this history, by watch and state
abbrev pub owed : List Step → Watch → ℕ → Bool
owed es c σ = (view_of es).duty.owes c σ

-- after this history a look at all member words of the head that finds no bit ends what is owed of the watches of that
-- head, by the plain reading of the history as by the view, and leaves what is owed of all others
pub record EndsOwed (es : List Step) (h : ℕ) : Type 0 where
  pub unowed : (c : Watch) (σ : ℕ) → head_of c ≡ h → Owes (es ++ empty_look h) c σ → ⊥
  pub here : (c : Watch) (σ : ℕ) → head_of c ≡ h → owed (es ++ empty_look h) c σ ≡ false
  pub elsewhere : (c : Watch) (σ : ℕ) → head_of c ≢ h → owed (es ++ empty_look h) c σ ≡ owed es c σ

abbrev pub EmptyLooksEnd : Type 0
EmptyLooksEnd = (es : List Step) (h : ℕ) → EndsOwed es h

-- a load that finds a bit ends nothing, and of the watches of its head the look has found no entry off
pub record EndsNothing (es : List Step) (h i w : ℕ) : Type 0 where
  pub owing : (c : Watch) (σ : ℕ) → owed (es ++ step.Scan h i w ∷ []) c σ ≡ owed es c σ
  pub anew : (c : Watch) (x : ℕ) → head_of c ≡ h → (view_of (es ++ step.Scan h i w ∷ [])).duty.cleared c x ≡ false

abbrev pub FoundBitsEndNothing : Type 0
FoundBitsEndNothing = (es : List Step) (h i w : ℕ) → w ≢ 0 → EndsNothing es h i w

-- Small histories: a task sets plain conditions and looks at their heads.

abbrev pub sets : ℕ → Step
sets c = step.Publish (watch.Plain c) 1 0

abbrev pub head : ℕ → ℕ
head c = head_of (watch.Plain c)

-- whether a wake of the condition for tasks in state 1 is owed then
abbrev pub owes_wake : List Step → ℕ → Bool
owes_wake es c = owed es (watch.Plain c) 1

pub record WorkedScans : Type 0 where
  pub set : owes_wake (sets 5 ∷ []) 5 ≡ true
  pub looked : owes_wake (sets 5 ∷ empty_look (head 5)) 5 ≡ false
  pub other_head : owes_wake (sets 6 ∷ sets 5 ∷ empty_look (head 5)) 6 ≡ true
  pub left_out : owes_wake (sets 5 ∷ empty_scans (head 5) 1 (MEMBER_WORDS - 1)) 5 ≡ true
  pub found : owes_wake (sets 5 ∷ step.Scan (head 5) 0 4 ∷ empty_scans (head 5) 1 (MEMBER_WORDS - 1)) 5 ≡ true
  pub found_last : owes_wake (sets 5 ∷ empty_scans (head 5) 0 7 ++ step.Scan (head 5) 7 1 ∷ []) 5 ≡ true
  pub looked_again : owes_wake (sets 5 ∷ step.Scan (head 5) 0 4 ∷ empty_look (head 5)) 5 ≡ false
  pub set_between : owes_wake (empty_scans (head 5) 0 4 ++ sets 5 ∷ empty_scans (head 5) 4 (MEMBER_WORDS - 4)) 5 ≡ true
