-- To be believed.
-- A mutex whose word is changed by the calls on mutexes alone has one holder at most.
use Rattle.std.specs.Prelude.{ℕ, zero, suc, ◌+◌, ◌<◌, ◌≡◌, ◌==◌, Bool, true, false, List, [], ◌∷◌, ◌++◌}
use Rattle.wait_model.specs.{declared.layout.TheConstants.TASKS, declared.steps.Step.Step, Tables.Table, Words.flag}
use Rattle.wait_model.specs.declared.steps.Step.TheVariants as step
use Rattle.wait_model.specs.declared.watches.Watch.TheVariants as watch
use Rattle.wait_rule.specs.{declared.journal.Item.Item, Rule.IsRuled, Setters.step_by}
use Rattle.wait_rule.specs.Interleavings.{AreAllowed, TaskStep, table_of}
use Rattle.futex_table.specs.Holding.{holds_in}

-- how many of the tasks below this number hold the mutex, by their histories
abbrev pub holders : ℕ → ℕ → (ℕ → List Step) → ℕ
holders zero m h = 0
holders (suc n) m h = holders n m h + flag (holds_in m (h n))

-- A step of a call on a mutex, where it changes its word: a take, or a store of 1 by a task that holds it.
abbrev pub IsMutexStep : ℕ → List Step → Step → Type 0
IsMutexStep m es (step.Publish (watch.Plain c) n r) = (c == m) ≡ true → (n ≡ 1) × (holds_in m es ≡ true)
IsMutexStep m es e = Unit {0}

-- so is each of these steps, the latest first
abbrev pub AreMutexSteps : ℕ → List TaskStep → List TaskStep → Type 0
AreMutexSteps m [] before = Unit {0}
AreMutexSteps m (x ∷ xs) before = IsMutexStep m ((table_of (xs ++ before)).history x.task) x.made
    × AreMutexSteps m xs before

-- no store of the word
abbrev pub stores_word : ℕ → Step → Bool
stores_word m (step.Publish (watch.Plain c) n r) = c == m
stores_word m _ = false

abbrev pub AreUnopened : ℕ → List TaskStep → Type 0
AreUnopened m [] = Unit {0}
AreUnopened m (x ∷ xs) = (stores_word m x.made ≡ false) × AreUnopened m xs

-- A task opened the mutex by a store of 1, the first in its word; since then the steps of calls on mutexes alone have
-- changed the word.
pub record IsMutexOpened (xs : List TaskStep) (m : ℕ) : Type 0 where
  pub before : List TaskStep
  pub opener : ℕ
  pub found : ℕ
  pub later : List TaskStep
  pub split : xs ≡ later ++ step_by opener (step.Publish (watch.Plain m) 1 found) ∷ before
  pub unopened : AreUnopened m before
  pub alone : AreMutexSteps m later (step_by opener (step.Publish (watch.Plain m) 1 found) ∷ before)

-- Then the word and the number of holders sum to 1: it is 1 while nobody holds the mutex, and 0 while one task does.
abbrev pub HasOneHolder : Table → ℕ → Type 0
HasOneHolder s m = s.words.plains m + holders TASKS m s.history ≡ 1

-- So it is after each step of each order of steps that are allowed, and in each table that meets the rule of a Domain,
-- by the order of steps that leads to it.
abbrev pub StepsHaveOneHolder : Type 0
StepsHaveOneHolder = (xs : List TaskStep) → AreAllowed xs → (m : ℕ) → IsMutexOpened xs m → HasOneHolder (table_of xs) m

abbrev pub RuleHasOneHolder : Type 0
RuleHasOneHolder = (s : Table) (items : ℕ → List Item) (ruled : IsRuled s items) (m : ℕ)
    → IsMutexOpened ruled.whole.interleaved.steps m → HasOneHolder s m

-- Two tasks of such a table that hold the mutex are one.
abbrev pub HoldersAreOne : Type 0
HoldersAreOne = (s : Table) (m t u : ℕ) → HasOneHolder s m → t < TASKS → u < TASKS → holds_in m (s.history t) ≡ true
    → holds_in m (s.history u) ≡ true → t ≡ u
