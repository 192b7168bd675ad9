-- A check of the definitions.
-- Semaphores in small histories: permits that are counted and taken, one that is given to a sleeper, and a signal that
-- ends a sleep.
use Rattle.std.specs.Prelude.{ℕ, ◌≡◌, ◌+◌, ◌-◌, ◌^◌, true, Some, List, [], ◌∷◌, ◌++◌}
use Rattle.wait_model.specs.{declared.steps.Step.Step, Fold.view_of, Permits.done_head, Permits.handed_to, Runs.own}
use Rattle.wait_model.specs.{Views.View, Words.entry_word}
use Rattle.wait_model.specs.Tables.{Table, start, steps}
use Rattle.wait_model.specs.WorkedPermits.{entry_at, finds_off, gives_back, locks, waits}
use Rattle.wait_model.specs.declared.steps.Step.TheVariants as step
use Rattle.wait_model.specs.declared.watches.Watch.TheVariants as watch
use Rattle.count_sem.specs.SemPermits.{IsSemStep, permits_given, permits_taken}

-- holds that raise and lower the count from what they find, and one that finds none
abbrev pub raises_from : ℕ → List Step
raises_from n = locks (step.Load (watch.Done 0) n ∷ step.Publish (watch.Done 0) (n + 1) n ∷ gives_back)

abbrev pub lowers_from : ℕ → List Step
lowers_from n = locks (step.Load (watch.Done 0) n ∷ step.Consume (watch.Done 0) (n - 1) n ∷ gives_back)

abbrev pub try_finds_none : List Step
try_finds_none = locks (step.Load (watch.Done 0) 0 ∷ gives_back)

-- `up`, `up`, and `try_down` three times
abbrev pub three_tries : Table
three_tries = steps start 0 (raises_from 0 ++ raises_from 1 ++ lowers_from 2 ++ lowers_from 1 ++ try_finds_none)

-- task 1 waits; task 3 gives it a permit; task 1 comes for it
abbrev pub one_waits : Table
one_waits = steps start 1 (waits 1 (2 ^ 39))

abbrev pub one_given : Table
one_given = steps one_waits 3 (locks (step.Unqueue (own 1) ∷ step.Unlock (done_head 0) true ∷ []))

abbrev pub one_has_come : Table
one_has_come = steps one_given 1 (finds_off (step.Load (watch.Done 0) 0 ∷ gives_back))

-- task 1 waits; a signal ends its sleep, and it takes its entry off
abbrev pub looks_there : List Step → List Step
looks_there es = step.Saw (own 1) (entry_word (Some (entry_at (2 ^ 39)))) ∷ es

abbrev pub one_leaves : Table
one_leaves = steps one_waits 1
    (locks (looks_there (step.Load (watch.Done 0) 0 ∷ step.Unqueue (own 1) ∷ gives_back)))

-- a hold that has seen an entry queued may not raise the count
abbrev pub sees_one : View
sees_one = view_of (locks (looks_there []))

-- what all that a task has made has given and taken
abbrev pub Gave : Table → ℕ → ℕ → ℕ → Type 0
Gave s t given taken = (permits_given 0 t (s.history t) ≡ given) × (permits_taken 0 t (s.history t) ≡ taken)

pub record WorkedSemaphores : Type 0 where
  pub tried : Gave three_tries 0 2 2
  pub none_left : three_tries.words.dones 0 ≡ 0
  pub not_yet : Gave one_given 1 0 0
  pub given : Gave one_given 3 1 0
  pub to_come : handed_to one_given 0 ≡ 1
  pub uncounted : one_given.words.dones 0 ≡ 0
  pub came : Gave one_has_come 1 0 1
  pub all_came : handed_to one_has_come 0 ≡ 0
  pub left : Gave one_leaves 1 0 0
  pub none_given : handed_to one_leaves 0 ≡ 0
  pub no_raise : IsSemStep 0 sees_one (step.Publish (watch.Done 0) 1 0) → ⊥
