-- For proofs alone.
-- What the hold of a wait knows of its count, and makes of permits, step by step.
use Rattle.std.specs.Prelude.{ℕ, ◌≡◌, ◌≢◌, ◌≤◌, ◌==◌, if◌then◌else◌, true}
use Rattle.std.specs.Prelude.{Option, Some, List, [], ◌∷◌, ◌++◌}
use Rattle.wait_model.specs.{declared.layout.TheConstants.ALL_DONE, declared.steps.Step.Step, Fold.view_of, Runs.own}
use Rattle.wait_model.specs.Views.{unseen}
use Rattle.wait_model.specs.Permits.{after_read, after_store, dealt, done_head}
use Rattle.wait_model.specs.declared.steps.Step.TheVariants as step
use Rattle.wait_model.specs.declared.watches.Watch.TheVariants as watch
use Rattle.wait_rule.specs.{HeldValues.count_in, LeftEntries.OrderOf, Known.Known, Says.history_of}

-- the count that a hold of the head of d knows after one more step, and what it owes
abbrev pub counted_in_cell : ℕ → Step → Option ℕ → Option ℕ
counted_in_cell d (step.Load (watch.Done c) r) o = if c == d then Some r else o
counted_in_cell d (step.Publish (watch.Done c) m r) o = if c == d then Some m else o
counted_in_cell d (step.Consume (watch.Done c) m r) o = if c == d then Some m else o
counted_in_cell d e o = o

abbrev pub still_owed_in_cell : ℕ → Step → ℕ → ℕ
still_owed_in_cell d (step.Load (watch.Done c) r) n = if c == d then after_read r n else n
still_owed_in_cell d (step.Publish (watch.Done c) m r) n = if c == d then after_store m r n else n
still_owed_in_cell d (step.Consume (watch.Done c) m r) n = if c == d then after_store m r n else n
still_owed_in_cell d e n = n

-- The steps of a wait in a hold: it looks, loads and stores its count, stores its state, takes its own entry off, and
-- queues that one where it knows that the count is 0.
abbrev pub IsOfWait : ℕ → Option ℕ → Step → Type 0
IsOfWait x o (step.Saw y w) = Unit {0}
IsOfWait x o (step.Look w) = Unit {0}
IsOfWait x o (step.State σ) = Unit {0}
IsOfWait x o (step.Load (watch.Done c) r) = Unit {0}
IsOfWait x o (step.Publish (watch.Done c) m r) = Unit {0}
IsOfWait x o (step.Consume (watch.Done c) m r) = Unit {0}
IsOfWait x o (step.Unqueue y) = y ≡ x
IsOfWait x o (step.Queue y e) = (y ≡ x) × (o ≡ Some 0)
IsOfWait x o e = ⊥

-- such steps lead from what a hold knows and owes to what it knows and owes then
abbrev pub Deals : ℕ → ℕ → List Step → Option ℕ → ℕ → Option ℕ → ℕ → Type 0
Deals d x [] o n p m = (o ≡ p) × (n ≡ m)
Deals d x (e ∷ es) o n p m = IsOfWait x o e × Deals d x es (counted_in_cell d e o) (still_owed_in_cell d e n) p m

pub record Held (d : ℕ) (old new : Known) (o : Option ℕ) (n : ℕ) (p : Option ℕ) (m : ℕ) : Type 0 where
  pub made : List Step
  pub is : history_of new ≡ history_of old ++ made
  pub deals : Deals d (own old.view.number) made o n p m
  pub number : new.view.number ≡ old.view.number

-- a wait that has loaded this count takes what it owes by lowering it by one
abbrev pub IsDebtSettled : ℕ → ℕ → Type 0
IsDebtSettled count n = (n ≤ 1) × (ALL_DONE ≤ count → n ≡ 0) × (count ≡ 0 → n ≡ 0)

-- In a hold of the head the task has looked at its own entry, or had left none there; what it knows of the count, and
-- what it owes.
pub record WaitsForPermit (d a : ℕ) (front : List Step) (o : Option ℕ) (n : ℕ) : Type 0 where
  pub head : (view_of front).hold.head ≡ Some (done_head d)
  pub seen : (dealt d a front).left ≡ true → (view_of front).hold.book (own a) ≢ unseen
  pub count : (dealt d a front).count ≡ o
  pub debt : (dealt d a front).debt ≡ n

abbrev pub WaitsIn : ℕ → Known → Option ℕ → ℕ → Type 0
WaitsIn d k o n = OrderOf k → WaitsForPermit d k.view.number (history_of k) o n

-- how a hold stands before its load of the count, and after it
pub record HasBegunHold (d : ℕ) (k : Known) : Type 0 where
  pub knows : Option ℕ
  pub owes : ℕ
  pub few : owes ≤ 1
  pub waits : WaitsIn d k knows owes

pub record HasLoadedCount (d : ℕ) (k : Known) (count : ℕ) : Type 0 where
  pub owes : ℕ
  pub settled : IsDebtSettled count owes
  pub waits : WaitsIn d k (Some count) owes

-- The latest hold has loaded or stored this count last.
abbrev pub CountsDone : Known → ℕ → ℕ → Type 0
CountsDone k d n = (count_in d (history_of k) ≡ Some n) × (n ≤ ALL_DONE)

-- The hold has loaded this count last, and knows what of it is the task's to take.
pub record Knows (k : Known) (d n : ℕ) : Type 0 where
  pub counts : CountsDone k d n
  pub loaded : HasLoadedCount d k n
