-- To be believed.
-- A wait for a completion: its stages, where it goes on behind each, what it tells of its transitions, and what its
-- places say of its last steps.
use Rattle.std.specs.Prelude.{ℕ, ◌≡◌, ◌≢◌, ◌<◌, ◌||◌, ◌==◌, Bool, true, false, is_some, if◌then◌else◌, Option, Some, None, List, [], ◌∷◌}
use Rattle.wait_model.specs.{declared.layout.TheConstants.COMPLETIONS, declared.calls.Call.Call}
use Rattle.wait_model.specs.{declared.calls.Answer.Answer, declared.points.Point.Point, declared.steps.Step.Step}
use Rattle.wait_model.specs.{declared.tasks.SleepState.SleepState, declared.watches.Aim.Aim}
use Rattle.wait_model.specs.{declared.watches.Watch.Watch, Permits.done_head, PointFacts.absent, Programs.zero_answer}
use Rattle.wait_model.specs.{Programs.signalled, Views.off as gone, Watches.head_of, Words.entry_of}
use Rattle.wait_model.specs.Tasks.{looks_in, pending, state_mask, task_of}
use Rattle.wait_model.specs.declared.calls.Call.TheVariants as calls
use Rattle.wait_model.specs.declared.calls.Answer.TheVariants as answer
use Rattle.wait_model.specs.declared.points.AwaitPoint.TheVariants as awaiting
use Rattle.wait_model.specs.declared.points.Point.TheVariants as at
use Rattle.wait_model.specs.declared.points.PreparePoint.TheVariants as preparing
use Rattle.wait_model.specs.declared.steps.Step.TheVariants as step
use Rattle.wait_model.specs.declared.watches.Watch.TheVariants as watch
use Rattle.wait_rule.specs.{Ends.WasWorn, HeldValues.count_in, Known.Known, LeftEntries.LeftOff, Stays.with_left_entry}
use Rattle.wait_rule.specs.{Tickets.no_ticket, Transitions.OnlyLooks, Transitions.Transition}
use Rattle.wait_rule.specs.Says.{IsUp, history_of, told_of}
use Rattle.wait_class.specs.{declared.stages.Added.Added, declared.stages.Doing.Doing, declared.stages.Run.Run}
use Rattle.wait_class.specs.declared.stages.Turn.{Turn}
use Rattle.wait_class.specs.Posts.{EndsWith, KeepsBut, Post, Stands, own_of}
use Rattle.wait_class.specs.Tables.{CallTable, Turned, call_plan, post_of}
use Rattle.wait_class.specs.declared.stages.Added.TheVariants as adds
use Rattle.wait_class.specs.declared.stages.Doing.TheVariants as doing
use Rattle.wait_class.specs.declared.stages.Turn.TheVariants as turn
use Rattle.wait_event.specs.Waits.{has_queued_in}
use Rattle.wait_leave.specs.Leaves.{with_asked}
use Rattle.completion_cell.specs.{LoadedCounts.AreInRange, declared.awaits.AwaitCall.AwaitCall}
use Rattle.completion_cell.specs.{declared.awaits.AwaitOutcome.AwaitOutcome, declared.awaits.AwaitStage.AwaitStage}
use Rattle.completion_cell.specs.HeldPermits.{HasBegunHold, Knows, WaitsIn}
use Rattle.completion_cell.specs.declared.awaits.AwaitOutcome.TheVariants as outcome
use Rattle.completion_cell.specs.declared.awaits.AwaitStage.TheVariants as stage

-- The stages: the point of the program, what is done there, and whether the ticket of its lock is drawn.
abbrev pub await_point_at : AwaitStage → Point
await_point_at stage.First = at.Await (awaiting.Lock false)
await_point_at stage.FirstTurn = at.Await (awaiting.Lock false)
await_point_at stage.FirstLoad = at.Await (awaiting.Load false)
await_point_at stage.Again = at.Await (awaiting.Lock true)
await_point_at stage.AgainTurn = at.Await (awaiting.Lock true)
await_point_at stage.AgainLoad = at.Await (awaiting.Load true)
await_point_at stage.Look = at.Prepare preparing.Look
await_point_at stage.Queue = at.Prepare preparing.Queue
await_point_at stage.State = at.Prepare preparing.State
await_point_at stage.Unlock = at.Prepare preparing.Unlock
await_point_at stage.Sleep = at.Sleep
await_point_at stage.LeaveState = at.Await (awaiting.Run true)
await_point_at stage.LeaveQueue = at.Await (awaiting.Off true)
await_point_at stage.LeaveUnlock = at.Await (awaiting.Last true)
await_point_at stage.TakeState = at.Await (awaiting.Run false)
await_point_at stage.TakeQueue = at.Await (awaiting.Off false)
await_point_at stage.TakeStore = at.Await (awaiting.Last false)
await_point_at stage.TakeUnlock = at.Await awaiting.Unlock

abbrev pub await_doing : AwaitStage → Doing
await_doing stage.First = doing.Draw
await_doing stage.FirstTurn = doing.Lock
await_doing stage.Again = doing.Draw
await_doing stage.AgainTurn = doing.Lock
await_doing stage.Look = doing.Look
await_doing stage.Queue = doing.Queue
await_doing stage.State = doing.State
await_doing stage.Unlock = doing.Unlock
await_doing stage.Sleep = doing.Sleep
await_doing stage.LeaveState = doing.State
await_doing stage.TakeState = doing.State
await_doing stage.TakeUnlock = doing.Unlock
await_doing _ = doing.Own

abbrev pub is_await_turn : AwaitStage → Bool
is_await_turn stage.FirstTurn = true
is_await_turn stage.AgainTurn = true
is_await_turn _ = false

-- How many events are left at most until no head is held; behind a signal one fewer is told, since a wait that is asked
-- to leave goes there from its add.
abbrev pub await_depth : AwaitStage → ℕ
await_depth stage.Look = 4
await_depth stage.Queue = 3
await_depth stage.State = 2
await_depth stage.Unlock = 1
await_depth stage.LeaveState = 2
await_depth stage.LeaveQueue = 1
await_depth stage.LeaveUnlock = 0
await_depth stage.TakeState = 4
await_depth stage.TakeQueue = 3
await_depth stage.TakeStore = 2
await_depth stage.TakeUnlock = 1
await_depth stage.FirstLoad = 5
await_depth stage.AgainLoad = 5
await_depth _ = 6

-- where a wait goes on behind a draw, behind a lock, an unlock and a store of a state, that found its count, its entry
-- queued or a signal, or not, and that queued its entry
abbrev pub AwaitTurn : Type 0
AwaitTurn = Turn AwaitStage AwaitOutcome

abbrev pub await_drawn : AwaitStage → AwaitStage
await_drawn stage.First = stage.FirstTurn
await_drawn stage.Again = stage.AgainTurn
await_drawn s = s

abbrev pub await_next : AwaitStage → AwaitTurn
await_next stage.FirstTurn = turn.Again stage.FirstLoad
await_next stage.AgainTurn = turn.Again stage.AgainLoad
await_next stage.State = turn.Again stage.Unlock
await_next stage.Unlock = turn.Again stage.Sleep
await_next stage.LeaveState = turn.Again stage.LeaveQueue
await_next stage.TakeState = turn.Again stage.TakeQueue
await_next stage.TakeUnlock = turn.Done outcome.Over
await_next s = turn.Again s

-- by whether the count was 0, the state admits a signal, and the wait was in its loop
abbrev pub counted_by : Bool → Bool → Bool → AwaitTurn
counted_by zero looks waited = if zero then (if looks then turn.Again stage.Look else turn.Again stage.Queue)
    else if waited then turn.Again stage.TakeState else turn.Again stage.TakeStore

abbrev pub counted_to : AwaitCall → Bool → AwaitTurn
counted_to r waited = counted_by (r.count == 0) (looks_in r.state) waited

abbrev pub await_found : AwaitStage → Bool → AwaitTurn
await_found stage.Look hit = if hit then turn.Again stage.LeaveState else turn.Again stage.Queue
await_found s hit = turn.Again s

abbrev pub joined_to : Added → AwaitTurn
joined_to adds.Joined = turn.Again stage.State
joined_to adds.Stayed = turn.Again stage.Unlock
joined_to adds.Worn = turn.Done outcome.Worn

abbrev pub await_state : AwaitCall → AwaitStage → ℕ
await_state r stage.State = state_mask r.state
await_state r _ = 0

-- where a wait goes on that was put asleep
abbrev pub is_await_slept : AwaitStage → Bool
is_await_slept stage.Again = true
is_await_slept _ = false

abbrev pub answer_to_await : AwaitOutcome → Answer
answer_to_await outcome.Over = zero_answer
answer_to_await (outcome.Signalled found) = signalled
answer_to_await outcome.Worn = answer.Worn

-- the completion that the call waits for, and the call
abbrev pub await_watch : AwaitCall → Watch
await_watch r = watch.Done r.cell

abbrev pub await_head : AwaitCall → ℕ
await_head r = head_of (await_watch r)

abbrev pub await_call : AwaitCall → Call
await_call r = calls.WaitFor r.cell r.state

-- the numbers of a wait are in their ranges
abbrev pub CellFits : AwaitCall → Type 0
CellFits r = r.cell < COMPLETIONS

-- a wait that has not begun
pub record IsFreshAwait (r : AwaitCall) (d : ℕ) (st : SleepState) : Type 0 where
  pub cell : r.cell ≡ d
  pub state_is : r.state ≡ st
  pub queued : r.queued ≡ false
  pub unasked : r.asked ≡ false

-- the wait is over: the task is awake, RUNNING, holds no head, and its entry is off
abbrev pub await_end_post : AwaitCall → AwaitOutcome → Post
await_end_post r o = record {
  head = None;
  ticket = no_ticket;
  stirs = false;
  state = 0;
  zone = absent;
  watch = await_watch r;
}

-- it is the same call, the run tells whether it has queued its entry, and the counts that it loaded have 32 bits
pub record AwaitTells (r q : AwaitCall) (ts : List Transition) : Type 0 where
  pub cell : q.cell ≡ r.cell
  pub state : q.state ≡ r.state
  pub queued : q.queued ≡ (r.queued || has_queued_in ts)
  pub ranged : AreInRange ts

-- The stages at which a wait leaves its loop, for a signal or to take one of the count: before its entry is taken off,
-- and behind that. Where the entry was found off it goes on where it stands.
abbrev pub off_stage : Bool → AwaitStage
off_stage true = stage.LeaveQueue
off_stage false = stage.TakeQueue

abbrev pub last_stage : Bool → AwaitStage
last_stage true = stage.LeaveUnlock
last_stage false = stage.TakeStore

abbrev pub quit_stage : Bool → AwaitStage
quit_stage found = if found then stage.LeaveUnlock else stage.LeaveQueue

abbrev pub take_stage : Bool → AwaitStage
take_stage found = if found then stage.TakeStore else stage.TakeQueue

-- The last steps of a wait that was signalled: its last hold loaded 0, looked at the own word, which showed a signal
-- that the state admits, stored RUNNING, took the own entry off or found it off, and gave the head back.
abbrev pub await_left_by : ℕ → ℕ → ℕ → ℕ → List Step
await_left_by d x w e = step.Load (watch.Done d) 0 ∷ step.Look w ∷ step.State 0 ∷ step.Saw x e
    ∷ (if is_some (entry_of e) then step.Unqueue x ∷ step.Unlock (head_of (watch.Done d)) false ∷ []
    else step.Unlock (head_of (watch.Done d)) false ∷ [])

pub record WasAwaitSignalled (k : Known) (r : AwaitCall) (found : Bool) : Type 0 where
  pub look : ℕ
  pub entry : ℕ
  pub pends : pending (state_mask r.state) (task_of look) ≡ true
  pub queued : found ≡ is_some (entry_of entry)
  pub ends : EndsWith k (await_left_by r.cell (own_of k) look entry)

-- so far
pub record LeavesBy (k : Known) (r : AwaitCall) (more : List Step) : Type 0 where
  pub word : ℕ
  pub pends : pending (state_mask r.state) (task_of word) ≡ true
  pub ends : EndsWith k (step.Load (await_watch r) 0 ∷ step.Look word ∷ more)
  pub knows : Knows k r.cell 0

-- It goes out of its hold, which has loaded 0: it was asked to leave, and has made these steps since; or a signal ends
-- it.
abbrev pub LeavesFor : Bool → Known → AwaitCall → List Step → Type 0
LeavesFor true k r more = Knows k r.cell 0 × EndsWith k more
LeavesFor false k r more = LeavesBy k r more

-- and it has looked at its own entry, and taken it off where that was queued
pub record HasPared (k : Known) (r : AwaitCall) (found : Bool) : Type 0 where
  pub entry : ℕ
  pub queued : is_some (entry_of entry) ≡ found
  pub leaves : LeavesFor r.asked k r (step.State 0 ∷ step.Saw (own_of k) entry
      ∷ (if found then step.Unqueue (own_of k) ∷ [] else []))

-- The last hold of a wait that was asked to leave had loaded 0, and the task stored no other count since. Last of all it
-- stored RUNNING, took the own entry off or found it off, and gave the head back.
abbrev pub out_by : ℕ → ℕ → ℕ → List Step
out_by d x e = step.State 0 ∷ step.Saw x e
    ∷ (if is_some (entry_of e) then step.Unqueue x ∷ step.Unlock (head_of (watch.Done d)) false ∷ []
    else step.Unlock (head_of (watch.Done d)) false ∷ [])

pub record WasAwaitLeft (k : Known) (d : ℕ) (found : Bool) : Type 0 where
  pub entry : ℕ
  pub queued : found ≡ is_some (entry_of entry)
  pub zero : count_in d (history_of k) ≡ Some 0
  pub ends : EndsWith k (out_by d (own_of k) entry)

-- why a wait stopped whose hold had loaded 0: it was asked to leave, or a signal ended it
abbrev pub WhyStopped : Bool → Known → AwaitCall → Bool → Type 0
WhyStopped true k r found = WasAwaitLeft k r.cell found
WhyStopped false k r found = WasAwaitSignalled k r found

-- The last hold of a wait that found no place noted it, and had loaded 0.
pub record FoundNoPlaceForCell (k : Known) (r : AwaitCall) : Type 0 where
  pub noted : WasWorn k.view.number k.view.items (await_head r) r.place
  pub zero : count_in r.cell (history_of k) ≡ Some 0

-- the task has just taken the lock of the completion's head, and given it back
abbrev pub HasJustLocked : Known → ℕ → Type 0
HasJustLocked k d = (aim : Option Aim) × (w : ℕ) × EndsWith k (step.Lock (done_head d) aim w ∷ [])

abbrev pub HasGivenBack : Known → AwaitCall → Type 0
HasGivenBack k r = EndsWith k (step.Unlock (await_head r) false ∷ [])

-- the count that it has loaded is not 0
abbrev pub FoundSome : Known → AwaitCall → Type 0
FoundSome k r = Knows k r.cell r.count × (r.count ≢ 0)

-- What a stage says of what the hold knows, and of the last steps: before the first hold the task has left its own entry
-- off, and a hold that is given back owes no permit.
abbrev pub AwaitTrail : Known → AwaitCall → AwaitStage → Type 0
AwaitTrail k r stage.First = LeftOff r.cell k
AwaitTrail k r stage.FirstTurn = LeftOff r.cell k
AwaitTrail k r stage.FirstLoad = HasBegunHold r.cell k
AwaitTrail k r stage.AgainLoad = HasJustLocked k r.cell
AwaitTrail k r stage.Look = Knows k r.cell 0 × EndsWith k (step.Load (await_watch r) 0 ∷ [])
AwaitTrail k r stage.Queue = Knows k r.cell 0
AwaitTrail k r stage.State = Knows k r.cell 0
AwaitTrail k r stage.Unlock = Knows k r.cell 0
AwaitTrail k r stage.LeaveState = LeavesFor r.asked k r []
AwaitTrail k r stage.LeaveQueue = LeavesFor r.asked k r (step.State 0 ∷ [])
AwaitTrail k r stage.LeaveUnlock = HasPared k r true
AwaitTrail k r stage.TakeState = FoundSome k r
AwaitTrail k r stage.TakeQueue = FoundSome k r
AwaitTrail k r stage.TakeStore = FoundSome k r
AwaitTrail k r stage.TakeUnlock = (o : Option ℕ) × WaitsIn r.cell k o 0
AwaitTrail k r _ = Unit {0}

-- The head was given back last, and the answer has its cause.
abbrev pub AwaitTrailEnd : Known → AwaitCall → AwaitOutcome → Type 0
AwaitTrailEnd k r outcome.Over = HasGivenBack k r
AwaitTrailEnd k r (outcome.Signalled found) = HasGivenBack k r × WhyStopped r.asked k r found
AwaitTrailEnd k r outcome.Worn = HasGivenBack k r × FoundNoPlaceForCell k r

-- what stays of the task meanwhile, but that it may leave its entry at the completion
abbrev pub CellKeeps : ℕ → Known → Known → Type 0
CellKeeps i old new = KeepsBut with_left_entry i old new

abbrev pub await_table : CallTable AwaitCall AwaitStage AwaitOutcome
await_table = record {
  plan_of = λ r. with_asked r.asked (call_plan (await_call r));
  Fits = CellFits;
  worn_at = λ r p. record r { place = p };
  joined_at = λ r s. record r { queued = true };
  point_of = await_point_at;
  doing = await_doing;
  drawn = is_await_turn;
  took = λ s. false;
  depth = await_depth;
  drawn_to = await_drawn;
  next_of = λ r s. await_next s;
  noted = λ r s v. r;
  loaded_to = λ r s v. turn.Again s;
  found_to = λ r s hit. await_found s hit;
  heeded_to = λ r s hit. turn.Again s;
  slept_to = λ r s. stage.Again;
  asleep_at = is_await_slept;
  added_to = λ r s a. joined_to a;
  state_at = await_state;
  answer_of = answer_to_await;
  has_taken = λ o. false;
  end_post = await_end_post;
  Tells = AwaitTells;
  Trail = AwaitTrail;
  TrailEnd = AwaitTrailEnd;
  Keeps = λ i c g h old new. CellKeeps i old new;
}

-- A wait is about to end, by looks behind the stage at which it stood: it has taken its own entry off, or its hold shows
-- that it is off.
pub record IsUnqueued (start k : Known) (r : Run AwaitCall) (found : Bool) : Type 0 where
  pub there : r.of.cell < COMPLETIONS
  pub up : IsUp k
  pub stands : Stands k (post_of await_table r.of stage.TakeStore)
  pub looks : OnlyLooks start k
  pub keeps : CellKeeps (own_of start) start k
  pub shows : found ≡ false → (told_of k).hold.book (own_of start) ≡ gone

-- it takes one of its count, and it was signalled
pub record TakesFrom (start k : Known) (r : Run AwaitCall) (found : Bool) : Type 0 where
  pub off : IsUnqueued start k r found
  pub some : FoundSome k r.of

pub record QuitsFrom (start k : Known) (r : Run AwaitCall) (found : Bool) : Type 0 where
  pub off : IsUnqueued start k r found
  pub left : HasPared k r.of found

-- The own entry was looked at, and taken off where it was queued.
abbrev pub ParesAwait : Known → Known → Run AwaitCall → Bool → Bool → Type 0
ParesAwait old new r stopped true = Turned await_table old new r r (off_stage stopped) (turn.Again (last_stage stopped))
ParesAwait old new r true false = QuitsFrom old new r false
ParesAwait old new r false false = TakesFrom old new r false
