-- To be believed.
-- A word that is changed by the holder of a mutex alone: what the holder has read in it stays until it changes it.
use Rattle.std.specs.Prelude.{ℕ, ◌<◌, ◌≡◌, ◌==◌, ◌&&◌, Bool, true, false, if◌then◌else◌, Option, Some, None, List, [], ◌∷◌, ◌++◌}
use Rattle.wait_model.specs.{declared.layout.TheConstants.TASKS, declared.steps.Step.Step, Tables.Table}
use Rattle.wait_model.specs.declared.steps.Step.TheVariants as step
use Rattle.wait_model.specs.declared.watches.Watch.TheVariants as watch
use Rattle.wait_rule.specs.{declared.journal.Item.Item, Rule.IsRuled, Setters.step_by}
use Rattle.wait_rule.specs.Interleavings.{AreAllowed, TaskStep, table_of}
use Rattle.futex_table.specs.{Holding.holds_after, Holding.holds_in, OneHolder.IsMutexOpened}

-- What a task has read in word c since it took mutex m: what its last load found, or what it stored behind that.
abbrev pub read_after : ℕ → ℕ → Step → Bool → Option ℕ → Option ℕ
read_after m c (step.Load (watch.Plain d) r) held o = if held && (d == c) then Some r else o
read_after m c (step.Publish (watch.Plain d) n r) held o =
    if d == m then None else (if held && (d == c) then Some n else o)
read_after m c (step.Consume (watch.Plain d) n r) held o = if d == c then None else o
read_after m c _ held o = o

abbrev pub read_from : ℕ → ℕ → List Step → Bool → Option ℕ → Option ℕ
read_from m c [] held o = o
read_from m c (e ∷ es) held o = read_from m c es (holds_after m e held) (read_after m c e held o)

abbrev pub read_in : ℕ → ℕ → List Step → Option ℕ
read_in m c es = read_from m c es false None

-- who stores in word c, or takes from it, holds mutex m
abbrev pub IsGuardedStep : ℕ → ℕ → List Step → Step → Type 0
IsGuardedStep m c es (step.Publish (watch.Plain d) n r) = (d == c) ≡ true → holds_in m es ≡ true
IsGuardedStep m c es (step.Consume (watch.Plain d) n r) = (d == c) ≡ true → holds_in m es ≡ true
IsGuardedStep m c es e = Unit {0}

-- so is each of these steps, the latest first
abbrev pub AreGuardedSteps : ℕ → ℕ → List TaskStep → List TaskStep → Type 0
AreGuardedSteps m c [] before = Unit {0}
AreGuardedSteps m c (x ∷ xs) before = IsGuardedStep m c ((table_of (xs ++ before)).history x.task) x.made
    × AreGuardedSteps m c xs before

-- The mutex is opened, its word is changed by calls on mutexes alone, and word c by its holders alone.
pub record IsGuardedWord (xs : List TaskStep) (m c : ℕ) : Type 0 where
  pub opened : IsMutexOpened xs m
  pub guarded : AreGuardedSteps m c opened.later
      (step_by opened.opener (step.Publish (watch.Plain m) 1 opened.found) ∷ opened.before)

-- Then what a task has read in the word, since it took the mutex, is what stands there: so a holder that loads it and
-- then stores one more loses no add.
abbrev pub StepsKeepRead : Type 0
StepsKeepRead = (xs : List TaskStep) → AreAllowed xs → (m c : ℕ) → IsGuardedWord xs m c → (t v : ℕ) → t < TASKS
    → read_in m c ((table_of xs).history t) ≡ Some v → (table_of xs).words.plains c ≡ v

abbrev pub RuleKeepsRead : Type 0
RuleKeepsRead = (s : Table) (items : ℕ → List Item) (ruled : IsRuled s items) (m c : ℕ)
    → IsGuardedWord ruled.whole.interleaved.steps m c → (t v : ℕ) → t < TASKS
    → read_in m c (s.history t) ≡ Some v → s.words.plains c ≡ v
