-- To be believed.
-- The laws of the model on a Domain: wakeups, signals, bits and completions, in each table that meets the rule, at each
-- moment before, and by the lists of a task that has joined all others.
use Rattle.std.specs.Prelude.{ℕ, ◌≡◌, ◌+◌, ◌-◌, ◌^◌, ◌<◌, ◌≤◌, ◌⊎◌, ◌==◌, ◌&&◌, List}
use Rattle.wait_model.specs.{declared.layout.TheConstants.TASKS, declared.steps.Step.Step, Words.flag, Tables.Table}
use Rattle.wait_model.specs.{Totals.total, Totals.total_below, Wakes.NoWakeIsLost, BitKeepers.AreKept, Histories.Lacks}
use Rattle.wait_model.specs.SignalCounts.{AreRaised, takes_fatal, takes_any, raises_fatal, raises_any}
use Rattle.wait_model.specs.DoneCounts.{IsBalanced, of_store, raises_by_one, lowers_by_one, grants, throws, ends_count}
use Rattle.wait_model.specs.declared.steps.Step.TheVariants as step
use Rattle.wait_rule.specs.{declared.journal.Item.Item, declared.journal.Journal.Journal, Items.steps_of, Journals.owns}
use Rattle.wait_rule.specs.{Journals.has_of, Rule.IsRuled, Says.IsShown}
use Rattle.wait_rule.specs.Interleavings.{TaskStep, table_of, AreAllowed}

-- Whoever sleeps on a watch that is set is covered by a task that owes the wake; or, at a plain condition or a
-- completion, wakes have used up their count at its head since; or, at a bit, some task is trying it.
abbrev pub RuleLosesNoWake : Type 0
RuleLosesNoWake = (s : Table) (items : ℕ → List Item) → IsRuled s items → NoWakeIsLost s

-- So it is after each step of each order of steps that are allowed.
abbrev pub StepsLoseNoWake : Type 0
StepsLoseNoWake = (xs : List TaskStep) → AreAllowed xs → NoWakeIsLost (table_of xs)

-- The journal has the lists of all tasks: each number is its own, spare or joined.
abbrev pub HasAll : Journal → Type 0
HasAll v = (t : ℕ) → t < TASKS → 1 ≤ owns t v

abbrev pub histories_in : Journal → ℕ → List Step
histories_in v t = steps_of (has_of t v)

-- Then the table that it sees has just these histories, and in it no wakeup is lost.
abbrev pub AllLoseNoWake : Type 0
AllLoseNoWake = (v : Journal) (law : IsShown v) → HasAll v
    → ((t : ℕ) → t < TASKS → law.table.history t ≡ histories_in v t) × NoWakeIsLost law.table

-- how often wakes used up their count at a head, by the histories of all tasks
abbrev pub spends_at : ℕ → Step → ℕ
spends_at h (step.Unlock g spent) = flag ((g == h) && spent)
spends_at h _ = 0

abbrev pub spent_in : ℕ → (ℕ → List Step) → ℕ
spent_in h history = total_below TASKS (spends_at h) history

-- the head's spent count is that number, up to its end
abbrev pub SpentIs : ℕ → ℕ → Type 0
SpentIs n count = ((n < 2 ^ 62) × (count ≡ n)) ⊎ ((2 ^ 62 ≤ n) × (count ≡ 2 ^ 62 - 1))

abbrev pub RuleCountsSpent : Type 0
RuleCountsSpent = (s : Table) (items : ℕ → List Item) → IsRuled s items → (h : ℕ)
    → SpentIs (spent_in h s.history) (s.spent h)

abbrev pub AllCountSpent : Type 0
AllCountSpent = (v : Journal) (law : IsShown v) → HasAll v → (h : ℕ)
    → SpentIs (spent_in h (histories_in v)) (law.table.spent h)

-- The signals that a task took, with the one that is pending, are at most those that were raised at it; the same of the
-- fatal ones.
abbrev pub RuleInventsNoSignal : Type 0
RuleInventsNoSignal = (s : Table) (items : ℕ → List Item) → IsRuled s items → (t : ℕ) → AreRaised TASKS s t

-- by the lists of all tasks
pub record TookRaised (v : Journal) (t : ℕ) : Type 0 where
  pub fatal : total takes_fatal (histories_in v t) ≤ total_below TASKS (raises_fatal t) (histories_in v)
  pub any : total takes_any (histories_in v t) ≤ total_below TASKS (raises_any t) (histories_in v)

abbrev pub AllTookRaised : Type 0
AllTookRaised = (v : Journal) → IsShown v → HasAll v → (t : ℕ) → t < TASKS → TookRaised v t

-- a bit is set exactly where one task holds it, and the counts of completions are balanced
abbrev pub RuleKeepsBits : Type 0
RuleKeepsBits = (s : Table) (items : ℕ → List Item) → IsRuled s items → AreKept s

abbrev pub RuleBalances : Type 0
RuleBalances = (s : Table) (items : ℕ → List Item) → IsRuled s items → (d : ℕ) → IsBalanced TASKS s d

-- what the stores of completion d count for, by the histories of all tasks
abbrev pub stored_in : (ℕ → ℕ → ℕ) → ℕ → (ℕ → List Step) → ℕ
stored_in count d history = total_below TASKS (of_store count d) history

-- by the lists of all tasks: raised and granted are lowered, thrown away and what stands
abbrev pub AllBalance : Type 0
AllBalance = (v : Journal) (law : IsShown v) → HasAll v → (d : ℕ)
    → stored_in raises_by_one d (histories_in v) + stored_in grants d (histories_in v)
    ≡ stored_in lowers_by_one d (histories_in v) + stored_in throws d (histories_in v) + law.table.words.dones d

-- Where no store made a count its end but by one more, no more was taken than was made.
abbrev pub TakesMade : (ℕ → List Step) → ℕ → Type 0
TakesMade history d = ((t : ℕ) → t < TASKS → Lacks (ends_count d) (history t))
    → stored_in lowers_by_one d history ≤ stored_in raises_by_one d history

abbrev pub RuleTakesMade : Type 0
RuleTakesMade = (s : Table) (items : ℕ → List Item) → IsRuled s items → (d : ℕ) → TakesMade s.history d

abbrev pub AllTakeMade : Type 0
AllTakeMade = (v : Journal) → IsShown v → HasAll v → (d : ℕ) → TakesMade (histories_in v) d
