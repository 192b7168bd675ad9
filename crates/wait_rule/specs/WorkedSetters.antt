-- A check of the definitions.
-- Worked orders of steps of setters that are followed through time: that the laws speak of them.
use Rattle.std.specs.Prelude.{ℕ, zero, suc, ◌≡◌, ◌+◌, ◌-◌, true, false, Some, None, List, [], ◌∷◌, ◌++◌}
use Rattle.wait_model.specs.{declared.watches.Watch.Watch, declared.watches.Entry.Entry, Fold.view_of, Wakes.Sleeps}
use Rattle.wait_model.specs.declared.layout.TheConstants.{ENTRIES, MEMBER_WORDS, FIRST_PLACE, FIRST_PLAIN_HEAD, NORMAL}
use Rattle.wait_model.specs.declared.layout.TheConstants.{RUNNABLE, UNINTERRUPTIBLE}
use Rattle.wait_model.specs.declared.watches.Watch.TheVariants as watch
use Rattle.wait_model.specs.declared.steps.Step.TheVariants as step
use Rattle.wait_rule.specs.Interleavings.{TaskStep, table_of, AreAllowed}
use Rattle.wait_rule.specs.Setters.{step_by, EndsItsWake, OwesNoMore, SetForGood}
use Rattle.wait_rule.specs.WorkedHolds.{aim_for, worked_entry}

abbrev pub the_set : Watch
the_set = watch.Plain 0

-- task 1 finds no bit in the first n member words of the head, without the lock
abbrev pub finds_none : ℕ → List TaskStep
finds_none zero = []
finds_none (suc n) = step_by 1 (step.Scan FIRST_PLAIN_HEAD n 0) ∷ finds_none n

-- it sets the condition, and then looks at all of them
abbrev pub set_and_looked : List TaskStep
set_and_looked = finds_none MEMBER_WORDS ++ step_by 1 (step.Publish the_set 1 0) ∷ []

-- task 0 queues its first entry, loads the condition as 0 and sleeps
abbrev pub the_sleeper : Entry
the_sleeper = worked_entry 0 FIRST_PLACE false

abbrev pub put_asleep : List TaskStep
put_asleep = step_by 0 (step.Sleep (RUNNABLE + UNINTERRUPTIBLE)) ∷ step_by 0 (step.Load the_set 0)
    ∷ step_by 0 (step.Unlock FIRST_PLAIN_HEAD false) ∷ step_by 0 (step.State UNINTERRUPTIBLE)
    ∷ step_by 0 (step.Queue 0 the_sleeper) ∷ step_by 0 (step.Saw 0 0)
    ∷ step_by 0 (step.Lock FIRST_PLAIN_HEAD None 0) ∷ []

-- task 1 sets the condition
abbrev pub set_for_it : List TaskStep
set_for_it = step_by 1 (step.Publish the_set 1 0) ∷ put_asleep

-- and walks: it wakes task 0, takes the entry off and finds the n entries behind that off
abbrev pub sees_others : ℕ → List TaskStep
sees_others zero = []
sees_others (suc n) = step_by 1 (step.Saw (suc n) 0) ∷ sees_others n

abbrev pub walk_of_one : List TaskStep
walk_of_one = sees_others (ENTRIES - 1) ++ step_by 1 (step.Unqueue 0)
    ∷ step_by 1 (step.Wake 0 NORMAL UNINTERRUPTIBLE) ∷ step_by 1 (step.Lock FIRST_PLAIN_HEAD (Some (aim_for 0 0)) 0)
    ∷ []

abbrev pub set_and_walked : List TaskStep
set_and_walked = step_by 1 (step.Unlock FIRST_PLAIN_HEAD false) ∷ (walk_of_one ++ set_for_it)

-- Before the end of its wake the setter owes it, and task 0 sleeps.
pub record WorkedSetters : Type 0 where
  pub looked_allowed : AreAllowed set_and_looked
  pub looked_ends : EndsItsWake set_and_looked 1 the_set the_set UNINTERRUPTIBLE
  pub looked_settles : OwesNoMore set_and_looked 1 the_set the_set UNINTERRUPTIBLE
  pub for_good : SetForGood (table_of set_and_looked).history 1 the_set the_set UNINTERRUPTIBLE
  pub sleeps : Sleeps (table_of set_for_it) 0 the_sleeper the_set
  pub owes : (view_of ((table_of (walk_of_one ++ set_for_it)).history 1)).duty.owes the_set UNINTERRUPTIBLE ≡ true
  pub walk_allowed : AreAllowed set_and_walked
  pub walk_settles : OwesNoMore set_and_walked 1 the_set the_set UNINTERRUPTIBLE
