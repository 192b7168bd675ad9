-- A check of the definitions.
-- A worked list of one task that waited and sleeps, of which the laws speak, and one of a task that has tested nothing.
use Rattle.std.specs.Prelude.{◌+◌, false, None, List, [], ◌∷◌}
use Rattle.wait_model.specs.{declared.calls.Call.Call, declared.steps.Step.Step, declared.watches.Entry.Entry}
use Rattle.wait_model.specs.{declared.watches.Watch.Watch, Points.form_of, Points.given_at, Queues.place_for}
use Rattle.wait_model.specs.{Readings.FailedLoad, Runs.entry_for}
use Rattle.wait_model.specs.declared.layout.TheConstants.{FIRST_PLAIN_HEAD, RUNNABLE, UNINTERRUPTIBLE}
use Rattle.wait_model.specs.declared.calls.Call.TheVariants as calls
use Rattle.wait_model.specs.declared.points.PreparePoint.TheVariants as preparing
use Rattle.wait_model.specs.declared.points.Point.TheVariants as at
use Rattle.wait_model.specs.declared.steps.Step.TheVariants as step
use Rattle.wait_model.specs.declared.tasks.SleepState.TheVariants as states
use Rattle.wait_model.specs.declared.watches.Watch.TheVariants as watch
use Rattle.wait_rule.specs.{Known.Known, Looking.ShowsEmpty, Says.newcomer}
use Rattle.wait_rule.specs.Transitions.{OnlyLooks, after_step_or_look, by_step}
use Rattle.waiter_laws.specs.Asleep.{EndsAsleep}

-- a wait of task 0 for condition 0
abbrev pub the_watch : Watch
the_watch = watch.Plain 0

abbrev pub the_wait : Call
the_wait = calls.Wait 0 (record { state = states.Uninterruptible; exclusive = false })

-- its entry, in an empty queue
abbrev pub the_entry : Entry
the_entry = entry_for (given_at the_wait (at.Prepare preparing.Queue)) (form_of the_wait) (place_for
    (form_of the_wait) [])

-- what a task knows once it has made these steps more
abbrev pub with_steps : List Step → Known → Known
with_steps [] k = k
with_steps (e ∷ es) k = with_steps es (after_step_or_look (by_step e) k)

-- It loads the condition as 0 and takes the lock. In its hold it looks at all words. Then it queues its entry, stores
-- its state, gives the lock back, loads the condition as 0 once more and sleeps.
abbrev pub up_to_hold : List Step
up_to_hold = step.Load the_watch 0 ∷ step.Lock FIRST_PLAIN_HEAD None 0 ∷ []

abbrev pub from_hold : List Step
from_hold = step.Queue 0 the_entry ∷ step.State UNINTERRUPTIBLE ∷ step.Unlock FIRST_PLAIN_HEAD false
    ∷ step.Load the_watch 0 ∷ step.Sleep (RUNNABLE + UNINTERRUPTIBLE) ∷ []

-- The same without the second load has not failed: the first one was before the store of the state.
abbrev pub untested : List Step
untested = step.Load the_watch 0 ∷ step.Lock FIRST_PLAIN_HEAD None 0 ∷ step.Queue 0 the_entry
    ∷ step.State UNINTERRUPTIBLE ∷ step.Unlock FIRST_PLAIN_HEAD false ∷ step.Sleep (RUNNABLE + UNINTERRUPTIBLE) ∷ []

pub record WorkedWaits : Type 0 where
  pub asleep : (k : Known) → OnlyLooks (with_steps up_to_hold (newcomer k.domain 0 1 1)) k → ShowsEmpty k
      → EndsAsleep the_wait (newcomer k.domain 0 1 1) (with_steps from_hold k)
  pub not_failed : FailedLoad untested 0 the_watch → ⊥
