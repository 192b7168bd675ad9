-- To be believed.
-- A `down` of a semaphore: its stages, where it goes on behind each, what it tells of its transitions, and what its
-- places say of its last steps.
use Rattle.std.specs.Prelude.{ℕ, ◌≡◌, ◌<◌, ◌||◌, ◌==◌, Bool, true, false, is_some, if◌then◌else◌, Option, Some, None}
use Rattle.std.specs.Prelude.{List, [], ◌∷◌}
use Rattle.wait_model.specs.{declared.layout.TheConstants.ALL_DONE, declared.layout.TheConstants.COMPLETIONS}
use Rattle.wait_model.specs.{declared.calls.Answer.Answer, declared.points.Point.Point, declared.steps.Step.Step}
use Rattle.wait_model.specs.{declared.tasks.SleepState.SleepState, declared.watches.Aim.Aim}
use Rattle.wait_model.specs.{declared.watches.Entry.Entry, declared.watches.Watch.Watch, PointFacts.absent}
use Rattle.wait_model.specs.{Programs.signalled, Programs.zero_answer, Words.entry_of}
use Rattle.wait_model.specs.Tasks.{looks_in, pending, state_mask, task_of}
use Rattle.wait_model.specs.Views.{Walk, off as taken_off, shown}
use Rattle.wait_model.specs.declared.calls.Answer.TheVariants as answer
use Rattle.wait_model.specs.declared.points.AwaitPoint.TheVariants as awaiting
use Rattle.wait_model.specs.declared.points.FinishPoint.TheVariants as finishing
use Rattle.wait_model.specs.declared.points.LeavePoint.TheVariants as leaving
use Rattle.wait_model.specs.declared.points.Point.TheVariants as at
use Rattle.wait_model.specs.declared.points.PreparePoint.TheVariants as preparing
use Rattle.wait_model.specs.declared.steps.Step.TheVariants as step
use Rattle.wait_model.specs.declared.watches.Watch.TheVariants as watch
use Rattle.wait_rule.specs.{Ends.WasWorn, HeldValues.count_in, Known.Known, LeftEntries.LeftOff, Says.history_of}
use Rattle.wait_rule.specs.{Says.told_of, Stays.with_left_entry, Tickets.no_ticket, Tickets.taken}
use Rattle.wait_rule.specs.Transitions.{Transition}
use Rattle.wq_head.specs.{Selects.simple_aim, Walking.IsUnder}
use Rattle.wait_class.specs.{Tables.CallTable, declared.stages.Added.Added, declared.stages.Doing.Doing}
use Rattle.wait_class.specs.declared.stages.Turn.{Turn}
use Rattle.wait_class.specs.Posts.{EndsWith, KeepsBut, Post, own_of}
use Rattle.wait_class.specs.declared.stages.Added.TheVariants as adds
use Rattle.wait_class.specs.declared.stages.Doing.TheVariants as doing
use Rattle.wait_class.specs.declared.stages.Turn.TheVariants as turn
use Rattle.wait_event.specs.Waits.{has_queued_in}
use Rattle.wait_leave.specs.Leaves.{with_asked}
use Rattle.completion_cell.specs.HeldPermits.{HasBegunHold, Knows, WaitsIn}
use Rattle.count_sem.specs.{SemPrograms.down_plan, SemPrograms.sem_head, declared.downs.DownCall.DownCall}
use Rattle.count_sem.specs.{declared.downs.DownOutcome.DownOutcome, declared.downs.DownStage.DownStage}
use Rattle.count_sem.specs.declared.downs.DownOutcome.TheVariants as outcome
use Rattle.count_sem.specs.declared.downs.DownStage.TheVariants as stage

-- The stages: the point of the program, what is done there, and whether the ticket of its lock is drawn.
abbrev pub down_point : DownStage → Point
down_point stage.First = at.Await (awaiting.Lock false)
down_point stage.FirstTurn = at.Await (awaiting.Lock false)
down_point stage.FirstLoad = at.Await (awaiting.Load false)
down_point stage.Again = at.Await (awaiting.Lock true)
down_point stage.AgainTurn = at.Await (awaiting.Lock true)
down_point stage.AgainLoad = at.Leave leaving.Queue
down_point stage.Look = at.Prepare preparing.Look
down_point stage.Queue = at.Prepare preparing.Queue
down_point stage.State = at.Prepare preparing.State
down_point stage.Unlock = at.Prepare preparing.Unlock
down_point stage.Sleep = at.Sleep
down_point stage.LeaveQueue = at.Finish finishing.Queue true
down_point stage.LeaveUnlock = at.Finish finishing.Unlock true
down_point stage.TakeQueue = at.Await (awaiting.Off false)
down_point stage.TakeStore = at.Await (awaiting.Last false)
down_point stage.TakeUnlock = at.Await awaiting.Unlock

abbrev pub down_doing : DownStage → Doing
down_doing stage.First = doing.Draw
down_doing stage.FirstTurn = doing.Lock
down_doing stage.Again = doing.Draw
down_doing stage.AgainTurn = doing.Lock
down_doing stage.Look = doing.Look
down_doing stage.Queue = doing.Queue
down_doing stage.State = doing.State
down_doing stage.Unlock = doing.Unlock
down_doing stage.Sleep = doing.Sleep
down_doing stage.LeaveQueue = doing.Pare
down_doing stage.LeaveUnlock = doing.Unlock
down_doing stage.TakeUnlock = doing.Unlock
down_doing _ = doing.Own

abbrev pub is_down_turn : DownStage → Bool
is_down_turn stage.FirstTurn = true
is_down_turn stage.AgainTurn = true
is_down_turn _ = false

-- how many events are left at most until no head is held
abbrev pub down_depth : DownStage → ℕ
down_depth stage.FirstLoad = 5
down_depth stage.AgainLoad = 5
down_depth stage.Look = 4
down_depth stage.Queue = 3
down_depth stage.State = 2
down_depth stage.Unlock = 1
down_depth stage.LeaveQueue = 2
down_depth stage.LeaveUnlock = 1
down_depth stage.TakeQueue = 3
down_depth stage.TakeStore = 2
down_depth stage.TakeUnlock = 1
down_depth _ = 6

-- where it goes on behind a draw, a lock, an unlock and a store of a state; by its count, its entry and a signal; and
-- by what came of its add
abbrev pub DownTurn : Type 0
DownTurn = Turn DownStage DownOutcome

abbrev pub down_drawn : DownStage → DownStage
down_drawn stage.First = stage.FirstTurn
down_drawn stage.Again = stage.AgainTurn
down_drawn s = s

abbrev pub down_next : DownStage → DownTurn
down_next stage.FirstTurn = turn.Again stage.FirstLoad
down_next stage.AgainTurn = turn.Again stage.AgainLoad
down_next stage.State = turn.Again stage.Unlock
down_next stage.Unlock = turn.Again stage.Sleep
down_next stage.LeaveUnlock = turn.Done outcome.Interrupted
down_next stage.TakeUnlock = turn.Done outcome.Over
down_next s = turn.Again s

abbrev pub waits_by : Bool → DownStage
waits_by looks = if looks then stage.Look else stage.Queue

abbrev pub takes_by : Bool → DownStage
takes_by ends = if ends then stage.TakeUnlock else stage.TakeStore

abbrev pub waits_to : DownCall → DownStage
waits_to r = waits_by (looks_in r.state)

abbrev pub takes_to : DownCall → DownStage
takes_to r = takes_by (r.count == ALL_DONE)

abbrev pub first_by : Bool → Bool → Bool → DownStage
first_by zero looks ends = if zero then waits_by looks else takes_by ends

abbrev pub first_to : DownCall → DownStage
first_to r = first_by (r.count == 0) (looks_in r.state) (r.count == ALL_DONE)

abbrev pub again_by : Bool → Bool → Bool → Bool → DownTurn
again_by queued zero looks ends = if queued
    then (if zero then turn.Again (waits_by looks) else turn.Again stage.TakeQueue)
    else if zero || ends then turn.Again stage.TakeUnlock else turn.Done outcome.Passing

abbrev pub again_to : DownCall → Bool → DownTurn
again_to r queued = again_by queued (r.count == 0) (looks_in r.state) (r.count == ALL_DONE)

abbrev pub down_found : DownStage → Bool → DownTurn
down_found stage.Look hit = if hit then turn.Again stage.LeaveQueue else turn.Again stage.Queue
down_found stage.LeaveQueue hit = if hit then turn.Again stage.LeaveUnlock else turn.Done outcome.Interrupted
down_found s hit = turn.Again s

abbrev pub down_added : Added → DownTurn
down_added adds.Joined = turn.Again stage.State
down_added adds.Stayed = turn.Again stage.Unlock
down_added adds.Worn = turn.Done outcome.Worn

abbrev pub down_state : DownCall → DownStage → ℕ
down_state r stage.State = state_mask r.state
down_state r _ = 0

abbrev pub is_down_slept : DownStage → Bool
is_down_slept stage.Again = true
is_down_slept _ = false

-- one that hands on answers by what follows in its hold
abbrev pub down_answer : DownOutcome → Answer
down_answer outcome.Over = zero_answer
down_answer outcome.Passing = answer.Value 0
down_answer outcome.Interrupted = signalled
down_answer outcome.Worn = answer.Worn

abbrev pub down_watch : DownCall → Watch
down_watch r = watch.Done r.cell

abbrev pub down_head : DownCall → ℕ
down_head r = sem_head r.cell

-- the numbers of a `down` are in their ranges
abbrev pub DownFits : DownCall → Type 0
DownFits r = r.cell < COMPLETIONS

-- one that has not begun
pub record IsFreshDown (r : DownCall) (d : ℕ) (st : SleepState) : Type 0 where
  pub cell : r.cell ≡ d
  pub state_is : r.state ≡ st
  pub queued : r.queued ≡ false
  pub unasked : r.asked ≡ false

-- It is over: the task is awake, RUNNING, and its entry is off; one that hands on holds the head still.
abbrev pub down_post : DownCall → DownOutcome → Post
down_post r outcome.Passing = record {
  head = Some (down_head r);
  ticket = taken (down_head r);
  stirs = false;
  state = state_mask r.state;
  zone = absent;
  watch = down_watch r;
}
down_post r _ = record {
  head = None;
  ticket = no_ticket;
  stirs = false;
  state = 0;
  zone = absent;
  watch = down_watch r;
}

-- it is the same call, and the run tells whether it has queued its entry
pub record DownTells (r q : DownCall) (ts : List Transition) : Type 0 where
  pub cell : q.cell ≡ r.cell
  pub state : q.state ≡ r.state
  pub queued : q.queued ≡ (r.queued || has_queued_in ts)

-- the count that it has loaded, and that is not 0
pub record HasCount (k : Known) (r : DownCall) : Type 0 where
  pub knows : Knows k r.cell r.count
  pub some : (r.count == 0) ≡ false

-- A hold that loaded 0: where the call had slept before, the hold had found its own entry queued before the load; else
-- it had queued none. These steps came behind.
abbrev pub found_zero : Bool → ℕ → ℕ → ℕ → List Step → List Step
found_zero true d x word more = step.Saw x word ∷ step.Load (watch.Done d) 0 ∷ more
found_zero false d x word more = step.Load (watch.Done d) 0 ∷ more

abbrev pub StoodThere : Bool → Bool → ℕ → Type 0
StoodThere true queued word = is_some (entry_of word) ≡ true
StoodThere false queued word = queued ≡ false

pub record FoundZero (k : Known) (r : DownCall) (more : List Step) : Type 0 where
  pub word : ℕ
  pub ends : EndsWith k (found_zero r.again r.cell (own_of k) word more)
  pub stood : StoodThere r.again r.queued word

-- and then a look at the own word showed a signal that the state admits
pub record FoundDownSignal (k : Known) (r : DownCall) (more : List Step) : Type 0 where
  pub look : ℕ
  pub pends : pending (state_mask r.state) (task_of look) ≡ true
  pub zero : FoundZero k r (step.Look look ∷ more)

-- and then it looked at its own word, or did not
abbrev pub looked_by : Option ℕ → List Step → List Step
looked_by None more = more
looked_by (Some w) more = step.Look w ∷ more

pub record HasFoundZero (k : Known) (r : DownCall) (more : List Step) : Type 0 where
  pub look : Option ℕ
  pub zero : FoundZero k r (looked_by look more)

-- It goes out of such a hold, and has made these steps since: it was asked to leave, or found a signal.
abbrev pub OutFor : Bool → Known → DownCall → List Step → Type 0
OutFor true k r more = HasFoundZero k r more
OutFor false k r more = FoundDownSignal k r more

-- and then its entry was taken off where it was queued, and the head given back
abbrev pub left_queue : ℕ → ℕ → ℕ → List Step
left_queue x d word = step.Saw x word
    ∷ (if is_some (entry_of word) then step.Unqueue x ∷ step.Unlock (sem_head d) false ∷ []
    else step.Unlock (sem_head d) false ∷ [])

pub record WentOutOfDown (k : Known) (r : DownCall) : Type 0 where
  pub entry : ℕ
  pub why : OutFor r.asked k r (left_queue (own_of k) r.cell entry)

-- so far
pub record HasLeftDown (k : Known) (r : DownCall) : Type 0 where
  pub entry : ℕ
  pub queued : is_some (entry_of entry) ≡ true
  pub why : OutFor r.asked k r (step.Saw (own_of k) entry ∷ step.Unqueue (own_of k) ∷ [])

-- The last hold of a `down` that found no place noted it, and had loaded 0.
pub record FoundNoSeat (k : Known) (r : DownCall) : Type 0 where
  pub noted : WasWorn k.view.number k.view.items (down_head r) r.place
  pub zero : count_in r.cell (history_of k) ≡ Some 0

abbrev pub GaveBack : Known → DownCall → Type 0
GaveBack k r = EndsWith k (step.Unlock (down_head r) false ∷ [])

-- the task has just taken the lock of the semaphore's head
abbrev pub JustLocked : Known → ℕ → Type 0
JustLocked k d = (aim : Option Aim) × (w : ℕ) × EndsWith k (step.Lock (sem_head d) aim w ∷ [])

-- the hold is under the walk that the lock of the semaphore's head begins
abbrev pub HasWalk : Known → ℕ → Type 0
HasWalk k d = (w : Walk) × IsUnder (simple_aim (sem_head d)) (told_of k) w

-- the hold has seen the own entry there
abbrev pub SeesOwn : Known → Type 0
SeesOwn k = (e : Entry) × ((told_of k).hold.book (own_of k) ≡ shown e)

-- it was given a permit, since its hold has seen its own entry taken off, and found that more are counted
pub record MayPass (k : Known) (r : DownCall) : Type 0 where
  pub there : r.cell < COMPLETIONS
  pub gone : (told_of k).hold.book (own_of k) ≡ taken_off
  pub count : HasCount k r
  pub more : (r.count == ALL_DONE) ≡ false
  pub walk : HasWalk k r.cell

-- What a stage says of the last steps, and of what the hold owes.
abbrev pub DownTrail : Known → DownCall → DownStage → Type 0
DownTrail k r stage.First = LeftOff r.cell k × (r.queued ≡ false)
DownTrail k r stage.FirstTurn = LeftOff r.cell k × (r.queued ≡ false)
DownTrail k r stage.FirstLoad = HasBegunHold r.cell k × (r.queued ≡ false)
DownTrail k r stage.AgainLoad = JustLocked k r.cell × HasWalk k r.cell
DownTrail k r stage.Look = Knows k r.cell 0 × FoundZero k r []
DownTrail k r stage.Queue = Knows k r.cell 0 × HasFoundZero k r []
DownTrail k r stage.State = Knows k r.cell 0
DownTrail k r stage.Unlock = Knows k r.cell 0
DownTrail k r stage.LeaveQueue = Knows k r.cell 0 × OutFor r.asked k r []
DownTrail k r stage.LeaveUnlock = Knows k r.cell 0 × HasLeftDown k r
DownTrail k r stage.TakeQueue = HasCount k r × SeesOwn k
DownTrail k r stage.TakeStore = HasCount k r × ((r.count == ALL_DONE) ≡ false)
DownTrail k r stage.TakeUnlock = (o : Option ℕ) × WaitsIn r.cell k o 0
DownTrail k r _ = Unit {0}

-- The answer has its cause, and the head was given back last, unless the hold goes on.
abbrev pub DownTrailEnd : Known → DownCall → DownOutcome → Type 0
DownTrailEnd k r outcome.Over = GaveBack k r
DownTrailEnd k r outcome.Passing = MayPass k r
DownTrailEnd k r outcome.Interrupted = GaveBack k r × WentOutOfDown k r
DownTrailEnd k r outcome.Worn = GaveBack k r × FoundNoSeat k r

-- what stays of the task meanwhile, but that it may leave its entry at the semaphore
abbrev pub DownKeeps : ℕ → Known → Known → Type 0
DownKeeps i old new = KeepsBut with_left_entry i old new

abbrev pub down_table : CallTable DownCall DownStage DownOutcome
down_table = record {
  plan_of = λ r. with_asked r.asked (down_plan r.cell r.state);
  Fits = DownFits;
  worn_at = λ r p. record r { place = p };
  joined_at = λ r s. record r { queued = true };
  point_of = down_point;
  doing = down_doing;
  drawn = is_down_turn;
  took = λ s. false;
  depth = down_depth;
  drawn_to = down_drawn;
  next_of = λ r s. down_next s;
  noted = λ r s v. r;
  loaded_to = λ r s v. turn.Again s;
  found_to = λ r s hit. down_found s hit;
  heeded_to = λ r s hit. turn.Again s;
  slept_to = λ r s. stage.Again;
  asleep_at = is_down_slept;
  added_to = λ r s a. down_added a;
  state_at = down_state;
  answer_of = down_answer;
  has_taken = λ o. false;
  end_post = down_post;
  Tells = DownTells;
  Trail = DownTrail;
  TrailEnd = DownTrailEnd;
  Keeps = λ i c g h old new. DownKeeps i old new;
}
