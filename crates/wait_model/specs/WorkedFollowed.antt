-- A check of the definitions.
-- Worked scripts of setters that are followed through time: that the law speaks of them.
use Rattle.std.specs.Prelude.{◌≡◌, ◌+◌, true, false, Some, List, [], ◌∷◌, ◌++◌}
use Rattle.wait_model.specs.{declared.calls.Ran.Ran, declared.watches.Entry.Entry, Followed.IsFollowed}
use Rattle.wait_model.specs.Words.{entry_word}
use Rattle.wait_model.specs.declared.layout.TheConstants.{FIRST_PLACE, FIRST_PLAIN_HEAD, UNINTERRUPTIBLE, RUNNABLE}
use Rattle.wait_model.specs.Worked.{Line, opens, runs, replay, plainly}
use Rattle.wait_model.specs.declared.calls.Call.TheVariants as calls
use Rattle.wait_model.specs.declared.calls.Event.TheVariants as event
use Rattle.wait_model.specs.declared.calls.Ran.TheVariants as ran
use Rattle.wait_model.specs.declared.queues.Form.TheVariants as forms
use Rattle.wait_model.specs.declared.tasks.Sleep.TheVariants as sleeps
use Rattle.wait_model.specs.declared.tasks.SleepState.TheVariants as states
use Rattle.wait_model.specs.declared.watches.Kind.TheVariants as kind
use Rattle.wait_model.specs.declared.watches.Watch.TheVariants as watch
use Rattle.wait_model.specs.declared.watches.Mode.TheVariants as modes

-- task 1 keeps bit 0 of word 0 and clears it; nobody waits, so its look for members finds none
abbrev pub cleared_alone : List Line
cleared_alone = opens 1 (calls.TryBit 0 0) ∷ runs 1 1 ∷ opens 1 (calls.ClearBit 0 0) ∷ runs 1 9 ∷ []

-- task 1 waits for a completion, and task 2 ends it for all: its selection wakes task 1, and comes to the end
abbrev pub completed_for_all : List Line
completed_for_all = opens 1 (calls.WaitFor 0 states.Uninterruptible) ∷ runs 1 99 ∷ opens 2 (calls.CompleteAll 0)
    ∷ runs 2 99 ∷ []

-- task 1 waits for condition 0, and task 2 sets it and wakes all: the run until the publish, and from there to the end
-- of the wake
abbrev pub set_and_woken : List Line
set_and_woken = opens 1 (calls.Wait 0 plainly) ∷ runs 1 99 ∷ opens 2 (calls.Set 0 1) ∷ runs 2 1
    ∷ opens 2 (calls.Wake 0 modes.Normal 0) ∷ runs 2 99 ∷ []

abbrev pub until_set : List Ran
until_set = ran.Opened 1 (calls.Wait 0 plainly) ∷ ran.Made 1 (event.Load 0 0) 0
    ∷ ran.Made 1 (event.Lock FIRST_PLAIN_HEAD) 0 ∷ ran.Made 1 (event.Queue FIRST_PLAIN_HEAD forms.Front) 0
    ∷ ran.Made 1 (event.State UNINTERRUPTIBLE) RUNNABLE ∷ ran.Made 1 (event.Unlock FIRST_PLAIN_HEAD false) 1
    ∷ ran.Made 1 (event.Load 0 0) 0 ∷ ran.Made 1 (event.Sleep sleeps.Asleep) (RUNNABLE + UNINTERRUPTIBLE)
    ∷ ran.Opened 2 (calls.Set 0 1) ∷ []

abbrev pub its_entry : Entry
its_entry = record {
  watch = watch.Plain 0;
  place = FIRST_PLACE;
  exclusive = false;
  priority = false;
  kind = kind.Autoremove;
}

abbrev pub until_woken : List Ran
until_woken = ran.Opened 2 (calls.Wake 0 modes.Normal 0) ∷ ran.Made 2 (event.Lock FIRST_PLAIN_HEAD) 0
    ∷ ran.Made 2 (event.Wake 1 true) UNINTERRUPTIBLE ∷ ran.Made 2 (event.Unqueue 1) (entry_word (Some its_entry)) ∷ []

abbrev pub whole_run : List Ran
whole_run = until_set ++ ran.Made 2 (event.Set 0 1) 0 ∷ (until_woken
    ++ ran.Made 2 (event.Unlock FIRST_PLAIN_HEAD false) 1 ∷ [])

pub record WorkedFollowed : Type 0 where
  pub no_member : IsFollowed (replay cleared_alone).run 1 (watch.Bit 0 0) (watch.Bit 0 0)
  pub for_all : IsFollowed (replay completed_for_all).run 2 (watch.Done 0) (watch.Done 0)
  pub by_walk_told : (replay set_and_woken).run ≡ whole_run
  pub by_walk : IsFollowed whole_run 2 (watch.Plain 0) (watch.Plain 0)
