-- To be believed.
-- A walk of a futex that a task makes after it has changed the word leaves nobody asleep for the value that the word had.
use Rattle.std.specs.Prelude.{ℕ, ◌≡◌, ◌≢◌, ◌==◌, Bool, true, false, Option, Some, List, [], ◌∷◌, ◌++◌}
use Rattle.wait_model.specs.{declared.steps.Step.Step, declared.watches.Aim.Aim, declared.watches.Entry.Entry}
use Rattle.wait_model.specs.{Tables.Table, Tasks.meets, Watches.mask_of, Watches.owner}
use Rattle.wait_model.specs.Histories.{Lacks, publishes, turns_lock}
use Rattle.wait_model.specs.Views.{View, Walk, all_passed, concerns}
use Rattle.wait_model.specs.declared.steps.Step.TheVariants as step
use Rattle.wait_model.specs.declared.watches.Kind.TheVariants as kind
use Rattle.wait_model.specs.declared.watches.Mode.TheVariants as mode
use Rattle.wait_rule.specs.{declared.journal.Item.Item, Known.Known, Queues.index, Rule.IsRuled, Says.history_of}
use Rattle.wait_rule.specs.Setters.{step_by}
use Rattle.wait_rule.specs.Interleavings.{AreAllowed, TaskStep, table_of}
use Rattle.order_laws.specs.TakenOff.{AllTakeOffWoken}
use Rattle.wait_class.specs.{declared.stages.Run.Run, Tables.IsAsleepAt}
use Rattle.futex_table.specs.{declared.waits.FutexStage.FutexStage, declared.waits.FutexWait.FutexWait}
use Rattle.futex_table.specs.FutexTables.{futex_head, futex_table, futex_word}

-- the word has another value in the table of the steps before, and after each of the later ones, the latest first
abbrev pub IsOther : List TaskStep → ℕ → ℕ → Type 0
IsOther xs f v = ((table_of xs).words.plains f == v) ≡ false

abbrev pub StaysOther : List TaskStep → List TaskStep → ℕ → ℕ → Type 0
StaysOther [] before f v = IsOther before f v
StaysOther (x ∷ xs) before f v = IsOther (x ∷ xs ++ before) f v × StaysOther xs before f v

-- The task's walk of the futex, for tasks of this state, has passed all entries: so its unlock ends it.
pub record HasPassedEntries (v : View) (f σ : ℕ) : Type 0 where
  pub walk : Walk
  pub is : v.walk ≡ Some walk
  pub concerns : concerns walk (futex_word f) σ ≡ true
  pub passed : all_passed v walk (λ _. false) ≡ true

-- In this order of steps a task stored in the word, and a later step of it ended a walk of the futex for tasks of this
-- state, which did not use up its count. From the store on the word differs from this value.
pub record HasWokenStale (xs : List TaskStep) (waker f v σ : ℕ) : Type 0 where
  pub before : List TaskStep
  pub publish : Step
  pub between : List TaskStep
  pub later : List TaskStep
  pub split : xs ≡ later ++ step_by waker (step.Unlock (futex_head f) false) ∷ (between
      ++ step_by waker publish ∷ before)
  pub is_publish : publishes publish (futex_word f) ≡ true
  pub walked : HasPassedEntries ((table_of (between ++ step_by waker publish ∷ before)).view waker) f σ
  pub until : StaysOther between (step_by waker publish ∷ before) f v
  pub since : StaysOther later (step_by waker (step.Unlock (futex_head f) false) ∷ (between
      ++ step_by waker publish ∷ before)) f v

-- a step that stores a state or an entry, or takes a lock or gives one back
abbrev pub is_unsteady : Step → Bool
is_unsteady (step.State σ) = true
is_unsteady (step.Queue x e) = true
is_unsteady e = turns_lock e

-- A task sleeps on the futex for this value: in one hold it loaded the word, with this value, and did what it did in the
-- hold; it gave the head back, and has done nothing since but look and sleep. Its entry for the futex stands.
pub record SleepsFor (s : Table) (t x : ℕ) (e : Entry) (f v σ : ℕ) : Type 0 where
  pub front : List Step
  pub aim : Option Aim
  pub word : ℕ
  pub inside : List Step
  pub head : ℕ
  pub spent : Bool
  pub rest : List Step
  pub history : s.history t ≡ front ++ step.Lock (futex_head f) aim word ∷ step.Load (futex_word f) v ∷ (inside
      ++ step.Unlock head spent ∷ rest)
  pub within : Lacks turns_lock inside
  pub steady : Lacks is_unsteady rest
  pub own : owner x ≡ t
  pub stands : s.entry x ≡ Some e
  pub watch : e.watch ≡ futex_word f
  pub kind : e.kind ≡ kind.Autoremove
  pub state : (s.task t).state ≡ σ
  pub down : σ ≢ 0

-- Then no other task sleeps for that value.
abbrev pub StepsLeaveNoStale : Type 0
StepsLeaveNoStale = (xs : List TaskStep) → AreAllowed xs → (waker f v σ : ℕ) → HasWokenStale xs waker f v σ → (t x : ℕ)
    (e : Entry) → t ≢ waker → SleepsFor (table_of xs) t x e f v σ → ⊥

abbrev pub RuleLeavesNoStale : Type 0
RuleLeavesNoStale = (s : Table) (items : ℕ → List Item) (ruled : IsRuled s items) (waker f v σ : ℕ)
    → HasWokenStale ruled.whole.interleaved.steps waker f v σ → (t x : ℕ) (e : Entry) → t ≢ waker
    → SleepsFor s t x e f v σ → ⊥

-- Whoever a wait has put asleep is such a task: in each table that meets the rule, with its list, as long as it was not
-- woken and its entry stands.
abbrev pub SleepersSleepFor : Type 0
SleepersSleepFor = (k : Known) (r : Run FutexWait) (s : FutexStage) → IsAsleepAt futex_table k r s → (u : Table)
    (items : ℕ → List Item) → IsRuled u items → items k.view.number ≡ k.view.items → (e : Entry)
    → u.entry (index k.view.number 0) ≡ Some e → e.watch ≡ futex_word r.of.futex → e.kind ≡ kind.Autoremove
    → (u.task k.view.number).state ≢ 0
    → SleepsFor u k.view.number (index k.view.number 0) e r.of.futex r.of.expected (u.task k.view.number).state

-- A walk for each state that a wake with NORMAL meets, as `futex_wake` makes it.
abbrev pub HasWokenEach : List TaskStep → ℕ → ℕ → ℕ → Type 0
HasWokenEach xs waker f v = (σ : ℕ) → meets (mask_of mode.Normal) σ ≡ true → HasWokenStale xs waker f v σ

-- Where others take off entries of woken tasks alone, nobody is asleep in a `futex_wait` on it then: no task that a wait
-- for that value has put asleep, by the history that it has, and that was not woken.
abbrev pub StepsLeaveNobody : Type 0
StepsLeaveNobody = (xs : List TaskStep) → AreAllowed xs → AllTakeOffWoken xs → (waker : ℕ) (k : Known)
    (r : Run FutexWait) (s : FutexStage) → IsAsleepAt futex_table k r s
    → HasWokenEach xs waker r.of.futex r.of.expected → (table_of xs).history k.view.number ≡ history_of k
    → meets (mask_of mode.Normal) ((table_of xs).task k.view.number).state ≡ true → ⊥

-- and so in each table that meets the rule of a Domain, with the task's list
abbrev pub RuleLeavesNobody : Type 0
RuleLeavesNobody = (u : Table) (items : ℕ → List Item) (ruled : IsRuled u items)
    → AllTakeOffWoken ruled.whole.interleaved.steps → (waker : ℕ) (k : Known) (r : Run FutexWait) (s : FutexStage)
    → IsAsleepAt futex_table k r s
    → HasWokenEach ruled.whole.interleaved.steps waker r.of.futex r.of.expected → items k.view.number ≡ k.view.items → (u.task k.view.number).state ≢ 0 → ⊥
