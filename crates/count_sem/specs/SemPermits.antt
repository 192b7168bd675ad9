-- To be believed.
-- Permits of semaphores: none is counted while a task is queued, and those that were given were taken or are counted.
use Rattle.std.specs.Prelude.{ℕ, ◌≡◌, ◌≢◌, ◌<◌, ◌+◌, ◌==◌, ◌&&◌, not, Bool, true, false, Some, List, [], ◌∷◌, ◌++◌}
use Rattle.wait_model.specs.{declared.layout.TheConstants.ALL_DONE, declared.layout.TheConstants.TASKS}
use Rattle.wait_model.specs.{declared.steps.Step.Step, Fold.after, Runs.own, Tables.Table, Totals.sum_below, Views.View}
use Rattle.wait_model.specs.{Views.blank, Watches.stands_at, Words.entry_of, Words.flag}
use Rattle.wait_model.specs.Permits.{Dealt, ShowsNobody, deals, dealt, done_head, finds_handed, handed_to, is_in}
use Rattle.wait_model.specs.Permits.{none_dealt}
use Rattle.wait_model.specs.declared.steps.Step.TheVariants as step
use Rattle.wait_model.specs.declared.watches.Watch.TheVariants as watch
use Rattle.wait_rule.specs.{declared.journal.Item.Item, declared.journal.Journal.Journal, Rule.IsRuled, Says.IsShown}
use Rattle.wait_rule.specs.{TableLaws.HasAll, TableLaws.histories_in}
use Rattle.wait_rule.specs.Interleavings.{AreAllowed, AreHanded, TaskStep, table_of}
use Rattle.count_sem.specs.declared.ups.TheConstants.{FULL}

-- What a task whose entry is x does to semaphore d by a step, by what it knows before it. It gives a permit: it raises
-- the count, or takes off the entry of another task, in a hold of the semaphore's head.
abbrev pub gives_permit : ℕ → ℕ → View → Dealt → Step → Bool
gives_permit d x v w (step.Publish (watch.Done c) n r) = c == d
gives_permit d x v w (step.Unqueue y) = is_in d v && not (y == x)
gives_permit d x v w _ = false

-- It takes one: it lowers the count, or finds its own entry off, which its last hold had left queued.
abbrev pub takes_permit : ℕ → ℕ → View → Dealt → Step → Bool
takes_permit d x v w (step.Consume (watch.Done c) n r) = c == d
takes_permit d x v w (step.Saw y found) = finds_handed d x v w y (entry_of found)
takes_permit d x v w _ = false

-- how many of these steps, the oldest first, and of a task's history, are such
abbrev pub counted_from : (ℕ → ℕ → View → Dealt → Step → Bool) → ℕ → ℕ → View → Dealt → List Step → ℕ
counted_from test d x v w [] = 0
counted_from test d x v w (e ∷ es) = flag (test d x v w e) + counted_from test d x (after e v) (deals d x v w e) es

abbrev pub permits_given : ℕ → ℕ → List Step → ℕ
permits_given d a es = counted_from gives_permit d (own a) blank none_dealt es

abbrev pub permits_taken : ℕ → ℕ → List Step → ℕ
permits_taken d a es = counted_from takes_permit d (own a) blank none_dealt es

-- the sums over all tasks
abbrev pub given_by_all : ℕ → (ℕ → List Step) → ℕ
given_by_all d history = sum_below TASKS (λ a. permits_given d a (history a))

abbrev pub taken_by_all : ℕ → (ℕ → List Step) → ℕ
taken_by_all d history = sum_below TASKS (λ a. permits_taken d a (history a))

-- A step by which a call on a semaphore changes the count, in a hold of which the view tells. It raises by one what it
-- finds, to FULL at most, in a hold that has seen nobody queued; or it lowers it by one.
pub record IsRaise (d : ℕ) (v : View) (value found : ℕ) : Type 0 where
  pub one : value ≡ found + 1
  pub below : found < FULL
  pub nobody : ShowsNobody (done_head d) v

abbrev pub IsSemStep : ℕ → View → Step → Type 0
IsSemStep d v (step.Publish (watch.Done c) value found) = (c == d) ≡ true → IsRaise d v value found
IsSemStep d v (step.Consume (watch.Done c) value found) = (c == d) ≡ true → value + 1 ≡ found
IsSemStep d v _ = Unit {0}

-- so is each of these steps, the oldest first, and each step of a history
abbrev pub AreSemSteps : ℕ → View → List Step → Type 0
AreSemSteps d v [] = Unit {0}
AreSemSteps d v (e ∷ es) = IsSemStep d v e × AreSemSteps d (after e v) es

abbrev pub UsesAsSemaphore : ℕ → List Step → Type 0
UsesAsSemaphore d es = AreSemSteps d blank es

abbrev pub AllUseAsSemaphore : ℕ → (ℕ → List Step) → Type 0
AllUseAsSemaphore d history = (t : ℕ) → t < TASKS → UsesAsSemaphore d (history t)

-- no load of these steps found the count at its end
abbrev pub FindsNoEnd : ℕ → List Step → Type 0
FindsNoEnd d es = (n : ℕ) (front rest : List Step) → es ≡ front ++ step.Load (watch.Done d) n ∷ rest → n < ALL_DONE

-- The law. While a task is queued at the semaphore no permit is counted; so a hold that knows the count, and that it
-- is not 0, finds nobody queued, and a `down` hands none on. While the head is free the permits that were given are in
-- number those that were taken, the tasks that have still to come for the one that was given to them, and those that
-- are counted. The count never comes to its end, so no task has found it there.
pub record KeepsPermits (s : Table) (d : ℕ) : Type 0 where
  pub none : (x : ℕ) → stands_at (s.entry x) (done_head d) ≡ true → s.words.dones d ≡ 0
  pub alone : (a n x : ℕ) → (dealt d a (s.history a)).count ≡ Some n → n ≢ 0
      → stands_at (s.entry x) (done_head d) ≡ false
  pub sums : s.holder (done_head d) ≡ false
      → given_by_all d s.history ≡ taken_by_all d s.history + handed_to s d + s.words.dones d
  pub below : s.words.dones d < ALL_DONE
  pub found : (a : ℕ) → FindsNoEnd d (s.history a)

-- It holds where all tasks change the count by such steps alone: after each step of each order of steps that are
-- allowed and meet the conditions on permits of completions, in each table that meets the rule of a Domain, and in the
-- table that a task sees that has joined all others, by the histories that it has.
abbrev pub StepsKeepPermits : Type 0
StepsKeepPermits = (xs : List TaskStep) → AreAllowed xs → AreHanded xs → (d : ℕ)
    → AllUseAsSemaphore d (table_of xs).history → KeepsPermits (table_of xs) d

abbrev pub RuleKeepsPermits : Type 0
RuleKeepsPermits = (s : Table) (items : ℕ → List Item) → IsRuled s items → (d : ℕ) → AllUseAsSemaphore d s.history
    → KeepsPermits s d

abbrev pub AllKeepPermits : Type 0
AllKeepPermits = (v : Journal) (law : IsShown v) → HasAll v → (d : ℕ) → AllUseAsSemaphore d (histories_in v)
    → ((t : ℕ) → t < TASKS → law.table.history t ≡ histories_in v t) × KeepsPermits law.table d
