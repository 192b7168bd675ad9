-- To be believed.
-- A setter followed through an order of steps: it publishes a watch, and by a later step of it a wake of the watch ends
-- that used up no count. Whoever the watch was set for all the while does not sleep on it any more.
use Rattle.std.specs.Prelude.{ℕ, ◌≡◌, ◌≢◌, ◌<◌, Bool, true, false, List, [], ◌∷◌, ◌++◌}
use Rattle.wait_model.specs.{declared.layout.TheConstants.TASKS, declared.watches.Watch.Watch}
use Rattle.wait_model.specs.{declared.watches.Entry.Entry, declared.steps.Step.Step, Watches.same, Watches.owner}
use Rattle.wait_model.specs.{Fold.view_of, Histories.Lacks, Histories.publishes, Owed.EndsWake, Wakes.Sleeps}
use Rattle.wait_model.specs.Tables.{Table, met, next}
use Rattle.wait_model.specs.declared.steps.Step.TheVariants as step
use Rattle.wait_rule.specs.{declared.journal.Item.Item, declared.journal.Journal.Journal, Rule.IsRuled, Says.IsShown}
use Rattle.wait_rule.specs.{TableLaws.HasAll, TableLaws.histories_in}
use Rattle.wait_rule.specs.Interleavings.{TaskStep, table_of, AreAllowed}

abbrev pub step_by : ℕ → Step → TaskStep
step_by t e = record { task = t; made = e }

-- the step gives a lock back whose walk has used up its count
abbrev pub uses_up : Step → Bool
uses_up (step.Unlock h spent) = spent
uses_up _ = false

-- the watch is set in the table of the steps before, and after each of the later ones; the latest step is the first
abbrev pub StaysSet : (later before : List TaskStep) → Watch → Type 0
StaysSet [] before on = met (table_of before).words on ≡ true
StaysSet (x ∷ xs) before on = (met (table_of (x ∷ xs ++ before)).words on ≡ true) × StaysSet xs before on

-- In this order of steps a task publishes c, and a later step of it ends a wake of c for tasks of state σ: the unlock
-- of a walk that is past all entries, without its count used up, or the last load of a look without the lock that found
-- none. From the publish on the watch `on` is set, whose waiters a wake of c wakes: c itself or, for a variable, one
-- with any old value.
pub record EndsItsWake (xs : List TaskStep) (setter : ℕ) (c on : Watch) (σ : ℕ) : Type 0 where
  pub before : List TaskStep
  pub publish : Step
  pub between : List TaskStep
  pub end : Step
  pub later : List TaskStep
  pub split : xs ≡ later ++ step_by setter end ∷ (between ++ step_by setter publish ∷ before)
  pub is_publish : publishes publish c ≡ true
  pub ends : EndsWake ((table_of (between ++ step_by setter publish ∷ before)).history setter) end c σ
  pub whole : uses_up end ≡ false
  pub watch : same on c ≡ true
  pub until : StaysSet between (step_by setter publish ∷ before) on
  pub since : StaysSet later (step_by setter end ∷ (between ++ step_by setter publish ∷ before)) on

-- no step that this task makes among these uses up a count
abbrev pub UsesUpNone : ℕ → List TaskStep → Type 0
UsesUpNone t [] = Unit {0}
UsesUpNone t (x ∷ xs) = (x.task ≡ t → uses_up x.made ≡ false) × UsesUpNone t xs

-- The same, by what contracts say of a task: it publishes c, and after these later steps, none of which is its own and
-- uses up a count, it owes no wake of c for tasks of state σ.
pub record OwesNoMore (xs : List TaskStep) (setter : ℕ) (c on : Watch) (σ : ℕ) : Type 0 where
  pub before : List TaskStep
  pub publish : Step
  pub later : List TaskStep
  pub split : xs ≡ later ++ step_by setter publish ∷ before
  pub is_publish : publishes publish c ≡ true
  pub whole : UsesUpNone setter later
  pub settled : (view_of ((table_of xs).history setter)).duty.owes c σ ≡ false
  pub watch : same on c ≡ true
  pub stays : StaysSet later (step_by setter publish ∷ before) on

-- no task of this state sleeps on the watch
abbrev pub NobodySleeps : Table → Watch → ℕ → Type 0
NobodySleeps s on σ = (x : ℕ) (e : Entry) → (s.task (owner x)).state ≡ σ → Sleeps s x e on → ⊥

-- So it is after such a wake, and where such a debt is settled: after each step of each order of steps that are allowed.
abbrev pub StepsWakeAll : Type 0
StepsWakeAll = (xs : List TaskStep) → AreAllowed xs → (setter : ℕ) (c on : Watch) (σ : ℕ)
    → EndsItsWake xs setter c on σ → NobodySleeps (table_of xs) on σ

abbrev pub StepsSettleAll : Type 0
StepsSettleAll = (xs : List TaskStep) → AreAllowed xs → (setter : ℕ) (c on : Watch) (σ : ℕ)
    → OwesNoMore xs setter c on σ → NobodySleeps (table_of xs) on σ

-- and in each table that meets the rule, by the order of steps that leads to it
abbrev pub RuleWakesAll : Type 0
RuleWakesAll = (s : Table) (items : ℕ → List Item) (ruled : IsRuled s items) (setter : ℕ) (c on : Watch) (σ : ℕ)
    → EndsItsWake ruled.whole.interleaved.steps setter c on σ → NobodySleeps s on σ

abbrev pub RuleSettlesAll : Type 0
RuleSettlesAll = (s : Table) (items : ℕ → List Item) (ruled : IsRuled s items) (setter : ℕ) (c on : Watch) (σ : ℕ)
    → OwesNoMore ruled.whole.interleaved.steps setter c on σ → NobodySleeps s on σ

-- wherever the watch is set before this step, it is set after it
abbrev pub LeavesSet : Watch → Step → Type 0
LeavesSet on e = (s : Table) (t : ℕ) → met s.words on ≡ true → met (next s t e).words on ≡ true

abbrev pub AllLeaveSet : Watch → List Step → Type 0
AllLeaveSet on [] = Unit {0}
AllLeaveSet on (e ∷ es) = LeavesSet on e × AllLeaveSet on es

-- By histories alone: a task has published c and so set the watch `on`, and no step of another task, and none of its own
-- since, leaves the watch unset. It has used up no count since and owes no wake of c for tasks of state σ.
pub record SetForGood (history : ℕ → List Step) (setter : ℕ) (c on : Watch) (σ : ℕ) : Type 0 where
  pub number : setter < TASKS
  pub before : List Step
  pub publish : Step
  pub later : List Step
  pub split : history setter ≡ before ++ publish ∷ later
  pub is_publish : publishes publish c ≡ true
  pub whole : Lacks uses_up later
  pub settled : (view_of (history setter)).duty.owes c σ ≡ false
  pub watch : same on c ≡ true
  pub sets : (s : Table) → met (next s setter publish).words on ≡ true
  pub own : AllLeaveSet on later
  pub others : (t : ℕ) → t < TASKS → t ≢ setter → AllLeaveSet on (history t)

-- then nobody sleeps on the watch in that state, in each table that meets the rule
abbrev pub RuleSetsForGood : Type 0
RuleSetsForGood = (s : Table) (items : ℕ → List Item) → IsRuled s items → (setter : ℕ) (c on : Watch) (σ : ℕ)
    → SetForGood s.history setter c on σ → NobodySleeps s on σ

-- and in the one that a task sees, by the histories that it has when it has joined all others
abbrev pub AllSetForGood : Type 0
AllSetForGood = (v : Journal) (law : IsShown v) → HasAll v → (setter : ℕ) (c on : Watch) (σ : ℕ)
    → SetForGood (histories_in v) setter c on σ → NobodySleeps law.table on σ
