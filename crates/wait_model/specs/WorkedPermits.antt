-- A check of the definitions.
-- Permits in small histories: two tasks wait for a completion, a third raises its count and takes the first of them
-- off, and the first takes the permit.
use Rattle.std.specs.Prelude.{ℕ, ◌≡◌, ◌+◌, ◌^◌, true, false, None, List, [], ◌∷◌}
use Rattle.wait_model.specs.{declared.layout.TheConstants.ALL_DONE, declared.steps.Step.Step}
use Rattle.wait_model.specs.{declared.watches.Entry.Entry, Runs.own, Watches.stands_at, Words.entry_word}
use Rattle.wait_model.specs.Permits.{dealt, done_head, handed_to, is_handed}
use Rattle.wait_model.specs.Tables.{Table, start, steps}
use Rattle.wait_model.specs.declared.steps.Step.TheVariants as step
use Rattle.wait_model.specs.declared.watches.Kind.TheVariants as kind
use Rattle.wait_model.specs.declared.watches.Watch.TheVariants as watch

abbrev pub entry_at : ℕ → Entry
entry_at place = record {
  watch = watch.Done 0;
  place = place;
  exclusive = false;
  priority = false;
  kind = kind.Simple;
}

abbrev pub locks : List Step → List Step
locks es = step.Lock (done_head 0) None 0 ∷ es

abbrev pub gives_back : List Step
gives_back = step.Unlock (done_head 0) false ∷ []

abbrev pub looks_off : ℕ → List Step → List Step
looks_off t es = step.Saw (own t) (entry_word None) ∷ es

-- a task finds the count 0, and queues its entry
abbrev pub waits : ℕ → ℕ → List Step
waits t place = locks (looks_off t (step.Load (watch.Done 0) 0 ∷ step.Queue (own t) (entry_at place) ∷ gives_back))

abbrev pub both_wait : Table
both_wait = steps (steps start 1 (waits 1 (2 ^ 39))) 2 (waits 2 (2 ^ 39 + 1))

-- task 3 raises the count, and takes the first entry off
abbrev pub raises : List Step → List Step
raises es = locks (step.Load (watch.Done 0) 0 ∷ step.Publish (watch.Done 0) 1 0 ∷ es)

abbrev pub completes : List Step
completes = raises (step.Unqueue (own 1) ∷ gives_back)

abbrev pub one_handed : Table
one_handed = steps both_wait 3 completes

-- task 1 takes the permit
abbrev pub finds_off : List Step → List Step
finds_off es = locks (looks_off 1 (step.Load (watch.Done 0) 1 ∷ es))

abbrev pub takes : List Step
takes = finds_off (step.Consume (watch.Done 0) 0 1 ∷ gives_back)

abbrev pub one_taken : Table
one_taken = steps one_handed 1 takes

abbrev pub IsHandedTo : Table → ℕ → Type 0
IsHandedTo s t = is_handed (dealt 0 t (s.history t)) (stands_at (s.entry (own t)) (done_head 0)) ≡ true

-- how much a hold of task t owes that has come so far
abbrev pub Owing : Table → ℕ → List Step → ℕ → Type 0
Owing s t es debt = (dealt 0 t ((steps s t es).history t)).debt ≡ debt

pub record WorkedPermits : Type 0 where
  pub none_handed : handed_to both_wait 0 ≡ 0
  pub one : handed_to one_handed 0 ≡ 1
  pub to_first : IsHandedTo one_handed 1
  pub raised : one_handed.words.dones 0 ≡ 1
  pub none_left : handed_to one_taken 0 ≡ 0
  pub taken : one_taken.words.dones 0 ≡ 0
  -- who has raised the count may not give the lock back before it has taken an entry off, nor may the task whose entry
  -- was taken off before it has taken the permit
  pub raiser_owes : Owing both_wait 3 (raises []) 1
  pub raiser_handed : Owing both_wait 3 (raises (step.Unqueue (own 1) ∷ [])) 0
  pub own_is_none : Owing both_wait 1 (raises (step.Unqueue (own 1) ∷ [])) 1
  pub first_owes : Owing one_handed 1 (finds_off []) 1
  pub first_took : Owing one_handed 1 (finds_off (step.Consume (watch.Done 0) 0 1 ∷ [])) 0
  -- a count that is granted whole is owed whole
  pub granted : Owing both_wait 3 (locks (step.Publish (watch.Done 0) ALL_DONE 0 ∷ [])) ALL_DONE
