-- To be believed.
-- A setter followed through time: it publishes a watch and then wakes whoever waits for it, to the end of the queue.
-- Whoever the watch was set for all the while does not sleep on it any more.
use Rattle.std.specs.Prelude.{ℕ, ◌≡◌, ◌≤◌, Bool, true, false, not, List, [], ◌∷◌, ◌++◌}
use Rattle.wait_model.specs.{declared.layout.TheConstants.EVENTS, declared.watches.Watch.Watch}
use Rattle.wait_model.specs.{declared.watches.Entry.Entry, declared.queues.End.End, declared.calls.Call.Call}
use Rattle.wait_model.specs.{declared.calls.Event.Event, declared.calls.Answer.Answer, declared.calls.Ran.Ran}
use Rattle.wait_model.specs.{declared.points.Point.Point, Watches.same, Tables.met, Points.call_watch, Wakes.Sleeps}
use Rattle.wait_model.specs.Runs.{State, given_by, event_steps, planned, happens, state_after, state_of, IsRun, made_in}
use Rattle.wait_model.specs.declared.watches.Mode.TheVariants as mode
use Rattle.wait_model.specs.declared.steps.Step.TheVariants as step
use Rattle.wait_model.specs.declared.queues.End.TheVariants as ends
use Rattle.wait_model.specs.declared.calls.Call.TheVariants as calls
use Rattle.wait_model.specs.declared.calls.Event.TheVariants as event
use Rattle.wait_model.specs.declared.calls.Answer.TheVariants as answers
use Rattle.wait_model.specs.declared.calls.Ran.TheVariants as ran
use Rattle.wait_model.specs.declared.points.Progress.TheVariants as now
use Rattle.wait_model.specs.declared.points.Next.TheVariants as next

-- the calls that wake whoever waits for their watch, in whatever state: until the end of the queue, or until a count
-- is used up
abbrev pub is_wake : Call → Bool
is_wake (calls.Wake c mode.Normal n) = true
is_wake (calls.SimpleWake c all) = true
is_wake (calls.Complete d) = true
is_wake (calls.CompleteAll d) = true
is_wake (calls.ClearBit w b) = true
is_wake (calls.SetVar v x) = true
is_wake _ = false

-- a walk came to the end of the queue: it used up no count, and no function stopped it
abbrev pub is_end : End → Bool
is_end ends.End = true
is_end _ = false

-- By this event and this answer of its call a wake came to its end: a walk came to the end of the queue, or its look
-- found no member, which its answer tells; or a selection, whose answer is a number, gave the lock back without its
-- count used up.
abbrev pub comes_to_end : Event → Answer → Bool
comes_to_end e (answers.Walk w) = is_end w.end
comes_to_end (event.Unlock h used) a = not used
comes_to_end e a = false

-- the event that the task makes is a store that may set c
pub record Publishes (s : State) (t : ℕ) (e : Event) (c : Watch) : Type 0 where
  pub stored : Watch
  pub value : ℕ
  pub found : ℕ
  pub step : event_steps s t (given_by (s.progress t)) e ≡ step.Publish stored value found ∷ []
  pub watch : same c stored ≡ true

-- the event that the task makes is the last of a call that wakes c, and the wake came to its end: no count was used up
pub record EndsWake (s : State) (t : ℕ) (e : Event) (c : Watch) : Type 0 where
  pub call : Call
  pub point : Point
  pub answer : Answer
  pub opened : s.progress t ≡ now.Open call point
  pub wakes : is_wake call ≡ true
  pub watch : same c (call_watch call) ≡ true
  pub ends : (planned s t call point).next ≡ next.Ends answer
  pub whole : comes_to_end e answer ≡ true

-- the watch is set in this state, and in each to which the items lead
abbrev pub StaysMet : State → List Ran → Watch → Type 0
StaysMet s [] on = met s.table.words on ≡ true
StaysMet s (item ∷ items) on = (met s.table.words on ≡ true) × StaysMet (happens s item) items on

-- In the run a task publishes c, and then ends a wake of c. From the publish to the end of the run the watch `on` is
-- set, whose waiters a wake of c wakes: c itself or, for a variable, one with any old value.
pub record IsFollowed (run : List Ran) (setter : ℕ) (c on : Watch) : Type 0 where
  pub before : List Ran
  pub publish : Event
  pub found : ℕ
  pub between : List Ran
  pub end : Event
  pub end_found : ℕ
  pub later : List Ran
  pub split : run ≡ before ++ ran.Made setter publish found ∷ (between ++ ran.Made setter end end_found ∷ later)
  pub publishes : Publishes (state_of before) setter publish c
  pub ends : EndsWake (state_after (happens (state_of before) (ran.Made setter publish found)) between) setter end c
  pub watch : same on c ≡ true
  pub stays : StaysMet (happens (state_of before) (ran.Made setter publish found))
      (between ++ ran.Made setter end end_found ∷ later) on

-- then nobody sleeps on that watch
abbrev pub LeavesNobody : List Ran → Type 0
LeavesNobody run = (setter : ℕ) (c on : Watch) → IsFollowed run setter c on → (x : ℕ) (e : Entry)
    → Sleeps (state_of run).table x e on → ⊥

-- so it is in every run, for a million events and less
abbrev pub SettersLeaveNobody : Type 0
SettersLeaveNobody = (run : List Ran) → IsRun run → made_in run ≤ EVENTS → LeavesNobody run
