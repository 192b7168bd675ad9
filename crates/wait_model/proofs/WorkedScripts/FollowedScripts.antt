-- Worked scripts of setters that are followed through time, computed.
use Rattle.std.proofs.Common.{refl, sym, subst}
use Rattle.std.specs.Prelude.{◌≡◌, ◌+◌, ◌&&◌, Bool, true, false, pos, Some, List, [], ◌∷◌, ◌++◌, take}
use Rattle.wait_model.specs.{declared.watches.Watch.Watch, declared.calls.Ran.Ran, Tables.met, Tasks.meets}
use Rattle.wait_model.specs.{Followed.StaysMet, Followed.IsFollowed, Worked.replay}
use Rattle.wait_model.specs.declared.layout.TheConstants.{FIRST_PLACE, FIRST_PLAIN_HEAD, FIRST_DONE_HEAD, FIRST_DONE}
use Rattle.wait_model.specs.declared.layout.TheConstants.{ALL_DONE, UNINTERRUPTIBLE, RUNNABLE}
use Rattle.wait_model.specs.Runs.{State, looks, all_peeks, happens, state_of}
use Rattle.wait_model.specs.Watches.{hashed, head_of, owner}
use Rattle.wait_model.specs.Words.{bit_at, bit_word, entry_of, entry_word}
use Rattle.wait_model.specs.WorkedFollowed.{cleared_alone, completed_for_all, set_and_woken, until_set, until_woken}
use Rattle.wait_model.specs.WorkedFollowed.{whole_run, WorkedFollowed}
use Rattle.wait_model.specs.declared.watches.Watch.TheVariants as watch
use Rattle.wait_model.specs.declared.watches.Mode.TheVariants as modes
use Rattle.wait_model.specs.declared.watches.Kind.TheVariants as kind
use Rattle.wait_model.specs.declared.queues.End.TheVariants as ends
use Rattle.wait_model.specs.declared.queues.Form.TheVariants as forms
use Rattle.wait_model.specs.declared.tasks.Sleep.TheVariants as sleeps
use Rattle.wait_model.specs.declared.tasks.SleepState.TheVariants as states
use Rattle.wait_model.specs.declared.calls.Call.TheVariants as calls
use Rattle.wait_model.specs.declared.calls.Event.TheVariants as event
use Rattle.wait_model.specs.declared.calls.Answer.TheVariants as answers
use Rattle.wait_model.specs.declared.calls.Ran.TheVariants as ran
use Rattle.wait_model.specs.declared.points.Point.TheVariants as at
use Rattle.wait_model.specs.declared.points.WalkPoint.TheVariants as walking
use Rattle.wait_model.specs.declared.points.SelectPoint.TheVariants as selecting
use Rattle.wait_model.proofs.Functions.{both_left, both_right}

-- the watch is set all the while
abbrev stays : State → List Ran → Watch → Bool
stays s [] on = met s.table.words on
stays s (item ∷ items) on = met s.table.words on && stays (happens s item) items on

stays_met : (items : List Ran) (s : State) (on : Watch) → stays s items on ≡ true → StaysMet s items on
stays_met [] s on h = h
stays_met (item ∷ items) s on h = (
  both_left (met s.table.words on) (stays (happens s item) items on) h,
  stays_met items (happens s item) on (both_right (met s.table.words on) (stays (happens s item) items on) h),
)

no_member : IsFollowed (replay cleared_alone).run 1 (watch.Bit 0 0) (watch.Bit 0 0)
unfolding looks all_peeks hashed head_of owner meets bit_at bit_word entry_of
no_member = record {
  before = take 3 (replay cleared_alone).run;
  publish = event.Clear 0 0;
  found = 1;
  between = [];
  end = event.Active 0 false;
  end_found = 0;
  later = [];
  split = refl;
  publishes = record { stored = watch.Bit 0 0; value = 0; found = 1; step = refl; watch = refl };
  ends = record {
    call = calls.ClearBit 0 0;
    point = at.Active;
    answer = answers.Walk (record { selected = 0; woken = 0; holds = 0; end = ends.End });
    opened = refl;
    wakes = refl;
    watch = refl;
    ends = refl;
    whole = refl;
  };
  watch = refl;
  stays = stays_met (ran.Made 1 (event.Active 0 false) 0 ∷ [])
      (happens (state_of (take 3 (replay cleared_alone).run)) (ran.Made 1 (event.Clear 0 0) 1)) (watch.Bit 0 0) refl;
}

-- the run of a completion for all until its store, and from there until its walk is over
abbrev until_done : List Ran
until_done = ran.Opened 1 (calls.WaitFor 0 states.Uninterruptible) ∷ ran.Made 1 (event.Lock FIRST_DONE_HEAD) 0
    ∷ ran.Made 1 (event.Load FIRST_DONE 0) 0 ∷ ran.Made 1 (event.Queue FIRST_DONE_HEAD forms.Tail) 0
    ∷ ran.Made 1 (event.State UNINTERRUPTIBLE) RUNNABLE ∷ ran.Made 1 (event.Unlock FIRST_DONE_HEAD false) 1
    ∷ ran.Made 1 (event.Sleep sleeps.Asleep) (RUNNABLE + UNINTERRUPTIBLE) ∷ ran.Opened 2 (calls.CompleteAll 0)
    ∷ ran.Made 2 (event.Lock FIRST_DONE_HEAD) 0 ∷ []

abbrev until_taken : List Ran
until_taken = ran.Made 2 (event.Wake 1 true) UNINTERRUPTIBLE ∷ ran.Made 2 (event.Unqueue 1) (entry_word (Some (record {
  watch = watch.Done 0;
  place = FIRST_PLACE;
  exclusive = false;
  priority = false;
  kind = kind.Simple;
}))) ∷ []

abbrev done_run : List Ran
done_run = until_done ++ ran.Made 2 (event.Set FIRST_DONE ALL_DONE) 0 ∷ (until_taken
    ++ ran.Made 2 (event.Unlock FIRST_DONE_HEAD false) 1 ∷ [])

for_all_told : (replay completed_for_all).run ≡ done_run
unfolding looks hashed head_of owner meets
for_all_told = refl

in_done_run : IsFollowed done_run 2 (watch.Done 0) (watch.Done 0)
unfolding looks hashed head_of owner meets
in_done_run = record {
  before = until_done;
  publish = event.Set FIRST_DONE ALL_DONE;
  found = 0;
  between = until_taken;
  end = event.Unlock FIRST_DONE_HEAD false;
  end_found = 1;
  later = [];
  split = refl;
  publishes = record { stored = watch.Done 0; value = ALL_DONE; found = 0; step = refl; watch = refl };
  ends = record {
    call = calls.CompleteAll 0;
    point = at.Select (selecting.Next 1);
    answer = answers.Number (pos 0);
    opened = refl;
    wakes = refl;
    watch = refl;
    ends = refl;
    whole = refl;
  };
  watch = refl;
  stays = stays_met (until_taken ++ ran.Made 2 (event.Unlock FIRST_DONE_HEAD false) 1 ∷ [])
      (happens (state_of until_done) (ran.Made 2 (event.Set FIRST_DONE ALL_DONE) 0)) (watch.Done 0) refl;
}

for_all : IsFollowed (replay completed_for_all).run 2 (watch.Done 0) (watch.Done 0)
for_all = subst (λ (run : List Ran). IsFollowed run 2 (watch.Done 0) (watch.Done 0)) (sym for_all_told) in_done_run

by_walk_told : (replay set_and_woken).run ≡ whole_run
unfolding looks hashed head_of owner meets
by_walk_told = refl

by_walk : IsFollowed whole_run 2 (watch.Plain 0) (watch.Plain 0)
unfolding looks hashed head_of owner meets
by_walk = record {
  before = until_set;
  publish = event.Set 0 1;
  found = 0;
  between = until_woken;
  end = event.Unlock FIRST_PLAIN_HEAD false;
  end_found = 1;
  later = [];
  split = refl;
  publishes = record { stored = watch.Plain 0; value = 1; found = 0; step = refl; watch = refl };
  ends = record {
    call = calls.Wake 0 modes.Normal 0;
    point = at.Walk (walking.Call (record {
      place = FIRST_PLACE + 1;
      woken = 1;
      selected = 0;
      left = 0;
      spent = false;
      calls = 1;
      holds = 1;
    }));
    answer = answers.Walk (record { selected = 0; woken = 1; holds = 1; end = ends.End });
    opened = refl;
    wakes = refl;
    watch = refl;
    ends = refl;
    whole = refl;
  };
  watch = refl;
  stays = stays_met (until_woken ++ ran.Made 2 (event.Unlock FIRST_PLAIN_HEAD false) 1 ∷ [])
      (happens (state_of until_set) (ran.Made 2 (event.Set 0 1) 0)) (watch.Plain 0) refl;
}

pub worked_followed : WorkedFollowed
worked_followed = record {
  no_member = no_member;
  for_all = for_all;
  by_walk_told = by_walk_told;
  by_walk = by_walk;
}
