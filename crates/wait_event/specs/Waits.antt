-- To be believed.
-- A wait for a plain condition or a variable: its stages, where it goes on behind each, what it tells of its
-- transitions, and what its places say of its last steps.
use Rattle.std.specs.Prelude.{ℕ, ◌≡◌, ◌||◌, ◌&&◌, Bool, true, false, if◌then◌else◌, is_some, Option, Some, None, List, [], ◌∷◌, ◌++◌}
use Rattle.wait_model.specs.{declared.calls.Answer.Answer, declared.tasks.How.How, declared.points.Point.Point}
use Rattle.wait_model.specs.{declared.steps.Step.Step, declared.watches.Watch.Watch, Words.entry_of}
use Rattle.wait_model.specs.{Programs.zero_answer, Programs.signalled, PointFacts.absent}
use Rattle.wait_model.specs.Tasks.{looks_in, task_of, state_mask, pending}
use Rattle.wait_model.specs.Watches.{IsThere, head_of, misses}
use Rattle.wait_model.specs.declared.calls.Answer.TheVariants as answer
use Rattle.wait_model.specs.declared.points.Point.TheVariants as at
use Rattle.wait_model.specs.declared.points.PreparePoint.TheVariants as preparing
use Rattle.wait_model.specs.declared.points.LeavePoint.TheVariants as leaving
use Rattle.wait_model.specs.declared.points.FinishPoint.TheVariants as finishing
use Rattle.wait_model.specs.declared.steps.Step.TheVariants as step
use Rattle.wait_model.specs.declared.watches.Watch.TheVariants as watch
use Rattle.wait_rule.specs.{Known.Known, Tickets.no_ticket, Says.told_of, Shown.shown_queue}
use Rattle.wait_rule.specs.Transitions.{StepOrLook, Transition, by_step}
use Rattle.wait_class.specs.{declared.stages.Added.Added, declared.stages.Doing.Doing, declared.stages.Turn.Turn}
use Rattle.wait_class.specs.{Frames.KeepsAll, Queueing.is_none, Tables.CallTable}
use Rattle.wait_class.specs.Posts.{EndsWith, FoundWorn, Post, own_of}
use Rattle.wait_class.specs.declared.stages.Added.TheVariants as adds
use Rattle.wait_class.specs.declared.stages.Doing.TheVariants as doing
use Rattle.wait_class.specs.declared.stages.Turn.TheVariants as turn
use Rattle.wait_event.specs.{WaitPlans.IsWaitFor, WaitPlans.wait_plan, declared.waits.WaitCall.WaitCall}
use Rattle.wait_event.specs.{declared.waits.WaitOutcome.WaitOutcome, declared.waits.WaitStage.WaitStage}
use Rattle.wait_event.specs.declared.waits.WaitOutcome.TheVariants as outcome
use Rattle.wait_event.specs.declared.waits.WaitStage.TheVariants as stage

-- The stages: the point of the program, and whether the ticket of its lock is drawn.
abbrev pub wait_point_at : WaitStage → Point
wait_point_at stage.First = at.First
wait_point_at stage.PrepareLock = at.Prepare preparing.Lock
wait_point_at stage.PrepareTurn = at.Prepare preparing.Lock
wait_point_at stage.PrepareLook = at.Prepare preparing.Look
wait_point_at stage.PrepareQueue = at.Prepare preparing.Queue
wait_point_at stage.PrepareState = at.Prepare preparing.State
wait_point_at stage.PrepareUnlock = at.Prepare preparing.Unlock
wait_point_at stage.Test = at.Test
wait_point_at stage.Sleep = at.Sleep
wait_point_at stage.Worn = at.Worn
wait_point_at stage.LeaveQueue = at.Leave leaving.Queue
wait_point_at stage.LeaveUnlock = at.Leave leaving.Unlock
wait_point_at (stage.LeaveLoad found) = at.Leave leaving.Load
wait_point_at stage.FinishState = at.Finish finishing.State false
wait_point_at stage.FinishLook = at.Finish finishing.Look false
wait_point_at stage.FinishLock = at.Finish finishing.Lock false
wait_point_at stage.FinishTurn = at.Finish finishing.Lock false
wait_point_at stage.FinishQueue = at.Finish finishing.Queue false
wait_point_at stage.FinishUnlock = at.Finish finishing.Unlock false

abbrev pub is_wait_turn : WaitStage → Bool
is_wait_turn stage.PrepareTurn = true
is_wait_turn stage.FinishTurn = true
is_wait_turn _ = false

abbrev pub wait_doing : WaitStage → Doing
wait_doing stage.First = doing.Own
wait_doing stage.PrepareLock = doing.Draw
wait_doing stage.PrepareTurn = doing.Lock
wait_doing stage.PrepareLook = doing.Look
wait_doing stage.PrepareQueue = doing.Queue
wait_doing stage.PrepareState = doing.State
wait_doing stage.PrepareUnlock = doing.Unlock
wait_doing stage.Test = doing.Load
wait_doing stage.Sleep = doing.Sleep
wait_doing stage.Worn = doing.Load
wait_doing stage.LeaveQueue = doing.Pare
wait_doing stage.LeaveUnlock = doing.Unlock
wait_doing (stage.LeaveLoad found) = doing.Load
wait_doing stage.FinishState = doing.State
wait_doing stage.FinishLook = doing.Peek
wait_doing stage.FinishLock = doing.Draw
wait_doing stage.FinishTurn = doing.Lock
wait_doing stage.FinishQueue = doing.Pare
wait_doing stage.FinishUnlock = doing.Unlock

-- how many events are left at most until no head is held
abbrev pub depth : WaitStage → ℕ
depth stage.PrepareLook = 4
depth stage.PrepareQueue = 3
depth stage.PrepareState = 2
depth stage.PrepareUnlock = 1
depth stage.LeaveQueue = 2
depth stage.LeaveUnlock = 1
depth stage.FinishQueue = 2
depth stage.FinishUnlock = 1
depth _ = 5

-- where a wait goes on behind a draw, behind a lock, an unlock and a store of a state, that found its condition not set
-- or set, that found its entry queued or a signal, or not, and that queued its entry
abbrev pub turn_of : WaitStage → WaitStage
turn_of stage.PrepareLock = stage.PrepareTurn
turn_of stage.FinishLock = stage.FinishTurn
turn_of s = s

abbrev pub looks_first : Bool → Turn WaitStage WaitOutcome
looks_first looks = if looks then turn.Again stage.PrepareLook else turn.Again stage.PrepareQueue

abbrev pub wait_next : WaitCall → WaitStage → Turn WaitStage WaitOutcome
wait_next r stage.PrepareTurn = looks_first (looks_in r.how.state)
wait_next r stage.PrepareState = turn.Again stage.PrepareUnlock
wait_next r stage.PrepareUnlock = turn.Again stage.Test
wait_next r stage.LeaveUnlock = turn.Again (stage.LeaveLoad true)
wait_next r stage.FinishState = turn.Again stage.FinishLook
wait_next r stage.FinishTurn = turn.Again stage.FinishQueue
wait_next r stage.FinishUnlock = turn.Done outcome.Over
wait_next r s = turn.Again s

abbrev pub missed_to : WaitStage → Turn WaitStage WaitOutcome
missed_to stage.First = turn.Again stage.PrepareLock
missed_to stage.Test = turn.Again stage.Sleep
missed_to stage.Worn = turn.Done outcome.Worn
missed_to (stage.LeaveLoad found) = turn.Done (outcome.Signalled found)
missed_to s = turn.Again s

abbrev pub met_to : WaitStage → Turn WaitStage WaitOutcome
met_to stage.First = turn.Done outcome.Over
met_to _ = turn.Again stage.FinishState

abbrev pub wait_loaded_to : WaitCall → WaitStage → ℕ → Turn WaitStage WaitOutcome
wait_loaded_to r s v = if misses r.watch v then missed_to s else met_to s

abbrev pub wait_found_to : WaitCall → WaitStage → Bool → Turn WaitStage WaitOutcome
wait_found_to r stage.PrepareLook found = if found then turn.Again stage.LeaveQueue else turn.Again stage.PrepareQueue
wait_found_to r stage.LeaveQueue found = if found then turn.Again stage.LeaveUnlock
    else turn.Again (stage.LeaveLoad false)
wait_found_to r stage.FinishLook found = if found then turn.Again stage.FinishLock else turn.Done outcome.Over
wait_found_to r stage.FinishQueue found = if found then turn.Again stage.FinishUnlock else turn.Done outcome.Over
wait_found_to r s found = turn.Again s

abbrev pub added_to : WaitCall → WaitStage → Added → Turn WaitStage WaitOutcome
added_to r s adds.Joined = turn.Again stage.PrepareState
added_to r s adds.Stayed = turn.Again stage.PrepareUnlock
added_to r s adds.Worn = turn.Again stage.Worn

abbrev pub wait_state_at : WaitCall → WaitStage → ℕ
wait_state_at r stage.PrepareState = state_mask r.how.state
wait_state_at r _ = 0

-- where it goes on that slept
abbrev pub is_slept : WaitStage → Bool
is_slept stage.PrepareLock = true
is_slept _ = false

-- a value that does not set the watch: the old one of a variable, and else 0
abbrev pub old_of : Watch → ℕ
old_of (watch.Var v old) = old
old_of _ = 0

-- a wait that has not begun
pub record IsFreshWait (r : WaitCall) (w : Watch) (how : How) : Type 0 where
  pub watch_is : r.watch ≡ w
  pub how_is : r.how ≡ how
  pub seen : r.seen ≡ old_of w
  pub queued : r.queued ≡ false
  pub unasked : r.asked ≡ false

pub record IsRunningWait (r : WaitCall) : Type 0 where
  pub there : IsThere r.watch
  pub suits : IsWaitFor r.watch r.how

-- The last hold of a wait that left its queue: the own entry was taken off, or was off, and the head given back.
abbrev pub off_by : ℕ → ℕ → ℕ → List Step
off_by x h e = step.Saw x e ∷ (if is_some (entry_of e)
    then step.Unqueue x ∷ step.Unlock h false ∷ []
    else step.Unlock h false ∷ [])

-- where it left for a signal, the look at the own word came before, and showed one that the state admits
abbrev pub wait_left_by : ℕ → ℕ → ℕ → ℕ → List Step
wait_left_by x h w e = step.Look w ∷ off_by x h e

abbrev pub head_of_wait : WaitCall → ℕ
head_of_wait r = head_of r.watch

-- the look showed this word, in which a signal is pending that the state admits
abbrev pub SawSignal : WaitCall → ℕ → Type 0
SawSignal r w = pending (state_mask r.how.state) (task_of w) ≡ true

-- and the hold the own entry as this word
pub record LeftQueue (k : Known) (r : WaitCall) (queued : Bool) (more : List Step) : Type 0 where
  pub look : ℕ
  pub entry : ℕ
  pub showed : SawSignal r look
  pub found : queued ≡ is_some (entry_of entry)
  pub ends : EndsWith k (wait_left_by (own_of k) (head_of_wait r) look entry ++ more)

-- a hold that left the queue since its task was asked to found the own entry as this word
pub record PartedQueue (k : Known) (r : WaitCall) (queued : Bool) (more : List Step) : Type 0 where
  pub entry : ℕ
  pub found : queued ≡ is_some (entry_of entry)
  pub ends : EndsWith k (off_by (own_of k) (head_of_wait r) entry ++ more)

-- why it left its queue: it was asked to, or found a signal
abbrev pub LeftSo : Bool → Known → WaitCall → Bool → List Step → Type 0
LeftSo true k r queued more = PartedQueue k r queued more
LeftSo false k r queued more = LeftQueue k r queued more

abbrev pub GoesOff : Bool → Known → WaitCall → Type 0
GoesOff true k r = Unit {0}
GoesOff false k r = (w : ℕ) × SawSignal r w × EndsWith k (step.Look w ∷ [])

abbrev pub TakesOwnOff : Bool → Known → WaitCall → Type 0
TakesOwnOff true k r = (e : ℕ) × (is_some (entry_of e) ≡ true)
    × EndsWith k (step.Saw (own_of k) e ∷ step.Unqueue (own_of k) ∷ [])
TakesOwnOff false k r = (w : ℕ) × (e : ℕ) × SawSignal r w × (is_some (entry_of e) ≡ true)
    × EndsWith k (step.Look w ∷ step.Saw (own_of k) e ∷ step.Unqueue (own_of k) ∷ [])

-- the load at which the wait ended
abbrev pub last_load : WaitCall → List Step
last_load r = step.Load r.watch r.seen ∷ []

-- a load that found this value does not set the watch
abbrev pub IsUnset : Watch → ℕ → Type 0
IsUnset (watch.Plain c) v = v ≡ 0
IsUnset (watch.Var u old) v = v ≡ old
IsUnset w v = misses w v ≡ true

-- what the wait has loaded last sets its watch
abbrev pub HasSeenSet : WaitCall → Type 0
HasSeenSet r = misses r.watch r.seen ≡ false

-- the history has stored the own entry of slot 0, and the state is the one in which the wait sleeps
pub record IsQueuedIn (k : Known) (σ : ℕ) : Type 0 where
  pub queued : is_some ((told_of k).bits.stored (own_of k)) ≡ true
  pub state : k.book.state ≡ σ

-- what a stage and an outcome say of the last steps
abbrev pub WaitTrailAt : Known → WaitCall → WaitStage → Type 0
WaitTrailAt k r stage.PrepareState = is_some ((told_of k).bits.stored (own_of k)) ≡ true
WaitTrailAt k r stage.PrepareUnlock = IsQueuedIn k (state_mask r.how.state)
WaitTrailAt k r stage.Test = IsQueuedIn k (state_mask r.how.state)
WaitTrailAt k r stage.LeaveQueue = GoesOff r.asked k r
WaitTrailAt k r stage.LeaveUnlock = TakesOwnOff r.asked k r
WaitTrailAt k r (stage.LeaveLoad found) = LeftSo r.asked k r found []
WaitTrailAt k r stage.Worn = FoundWorn k (head_of_wait r) r.place []
WaitTrailAt k r stage.FinishState = HasSeenSet r
WaitTrailAt k r stage.FinishLook = HasSeenSet r
WaitTrailAt k r stage.FinishLock = HasSeenSet r
WaitTrailAt k r stage.FinishTurn = HasSeenSet r
WaitTrailAt k r stage.FinishQueue = HasSeenSet r
WaitTrailAt k r stage.FinishUnlock = HasSeenSet r
WaitTrailAt k r _ = Unit {0}

abbrev pub WaitTrailEnd : Known → WaitCall → WaitOutcome → Type 0
WaitTrailEnd k r outcome.Over = HasSeenSet r
WaitTrailEnd k r (outcome.Signalled found) = LeftSo r.asked k r found (last_load r) × IsUnset r.watch r.seen
WaitTrailEnd k r outcome.Worn = FoundWorn k (head_of_wait r) r.place (last_load r) × IsUnset r.watch r.seen

-- the wait has ended: the task is awake, RUNNING, holds no head, and its entry is off
abbrev pub wait_end_post : WaitCall → WaitOutcome → Post
wait_end_post r o = record {
  head = None;
  ticket = no_ticket;
  stirs = false;
  state = 0;
  zone = absent;
  watch = r.watch;
}

abbrev pub answer_to_wait : WaitOutcome → Answer
answer_to_wait outcome.Over = zero_answer
answer_to_wait (outcome.Signalled found) = signalled
answer_to_wait outcome.Worn = answer.Worn

-- it is the same call
pub record SameCall (r q : WaitCall) : Type 0 where
  pub watch_is : q.watch ≡ r.watch
  pub how : q.how ≡ r.how

-- whether the task queued an entry in one of these transitions
abbrev pub is_queue : StepOrLook → Bool
is_queue (by_step (step.Queue x e)) = true
is_queue _ = false

abbrev pub has_queued_in : List Transition → Bool
has_queued_in [] = false
has_queued_in (t ∷ ts) = is_queue t.did || has_queued_in ts

-- whether it queued one where its hold had shown no member of the head before
abbrev pub queues_first : List Transition → Bool
queues_first [] = false
queues_first (t ∷ ts) = (is_queue t.did && is_none (shown_queue t.knew)) || queues_first ts

-- what the last load in these transitions found, and before the first one what had been found
abbrev pub loaded_by : StepOrLook → Option ℕ → Option ℕ
loaded_by (by_step (step.Load w v)) o = Some v
loaded_by _ o = o

abbrev pub last_loaded : Option ℕ → List Transition → Option ℕ
last_loaded o [] = o
last_loaded o (t ∷ ts) = last_loaded (loaded_by t.did o) ts

-- the run tells whether it has queued its entry, and what the last load found
pub record TellsWait (r q : WaitCall) (ts : List Transition) : Type 0 where
  pub same : SameCall r q
  pub queued : q.queued ≡ (r.queued || has_queued_in ts)
  pub seen : Some q.seen ≡ last_loaded (Some r.seen) ts

abbrev pub wait_table : CallTable WaitCall WaitStage WaitOutcome
wait_table = record {
  plan_of = λ r. record (wait_plan r.watch r.how) { asked = r.asked };
  Fits = IsRunningWait;
  worn_at = λ r p. record r { place = p };
  joined_at = λ r s. record r { queued = true };
  point_of = wait_point_at;
  doing = wait_doing;
  drawn = is_wait_turn;
  took = λ s. false;
  depth = depth;
  drawn_to = turn_of;
  next_of = wait_next;
  noted = λ r s v. record r { seen = v };
  loaded_to = wait_loaded_to;
  found_to = wait_found_to;
  heeded_to = λ r s hit. turn.Again s;
  slept_to = λ r s. stage.PrepareLock;
  asleep_at = is_slept;
  added_to = added_to;
  state_at = wait_state_at;
  answer_of = answer_to_wait;
  has_taken = λ o. false;
  end_post = wait_end_post;
  Tells = TellsWait;
  Trail = WaitTrailAt;
  TrailEnd = WaitTrailEnd;
  Keeps = KeepsAll;
}
