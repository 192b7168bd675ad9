-- To be believed.
-- A wait on a futex: its program point by point, its stages, where it goes on behind each, and what its places say of
-- its last steps.
use Rattle.std.specs.Prelude.{ℕ, ◌≡◌, ◌<◌, ◌⊎◌, ◌==◌, Bool, true, false, if◌then◌else◌, is_some, Option, None, List, []}
use Rattle.std.specs.Prelude.{◌∷◌, ◌++◌}
use Rattle.wait_model.specs.{declared.layout.TheConstants.FIRST_SIMPLE, declared.calls.Answer.Answer}
use Rattle.wait_model.specs.{declared.points.Next.Next, declared.points.Planned.Planned, declared.points.Point.Point}
use Rattle.wait_model.specs.{declared.points.Seen.Seen, declared.steps.Step.Step, declared.tasks.SleepState.SleepState}
use Rattle.wait_model.specs.{declared.watches.Aim.Aim, declared.watches.Entry.Entry, declared.watches.Watch.Watch}
use Rattle.wait_model.specs.{Histories.Lacks, PointFacts.absent, Points.given_at, Words.entry_of}
use Rattle.wait_model.specs.Programs.{ends_with, go, signalled, sleep_event, zero_answer}
use Rattle.wait_model.specs.Tasks.{looks_in, pending, state_mask, task_of}
use Rattle.wait_model.specs.Watches.{head_of, kind_for, number_of}
use Rattle.wait_model.specs.declared.calls.Answer.TheVariants as answer
use Rattle.wait_model.specs.declared.calls.Call.TheVariants as calls
use Rattle.wait_model.specs.declared.calls.Event.TheVariants as event
use Rattle.wait_model.specs.declared.points.AddPoint.TheVariants as adding
use Rattle.wait_model.specs.declared.points.AwaitPoint.TheVariants as awaiting
use Rattle.wait_model.specs.declared.points.FinishPoint.TheVariants as finishing
use Rattle.wait_model.specs.declared.points.LeavePoint.TheVariants as leaving
use Rattle.wait_model.specs.declared.points.Next.TheVariants as next
use Rattle.wait_model.specs.declared.points.Point.TheVariants as at
use Rattle.wait_model.specs.declared.points.PreparePoint.TheVariants as preparing
use Rattle.wait_model.specs.declared.queues.Form.TheVariants as forms
use Rattle.wait_model.specs.declared.steps.Step.TheVariants as step
use Rattle.wait_model.specs.declared.watches.Watch.TheVariants as watch
use Rattle.wait_rule.specs.{Known.Known, Says.history_of, Tickets.no_ticket}
use Rattle.wait_class.specs.{declared.stages.Added.Added, declared.stages.Doing.Doing, declared.stages.Turn.Turn}
use Rattle.wait_class.specs.{Frames.KeepsAll, Tables.CallTable, Tables.Plan}
use Rattle.wait_class.specs.Posts.{EndsWith, FoundWorn, IsOut, Post, own_of}
use Rattle.wait_class.specs.declared.stages.Added.TheVariants as adds
use Rattle.wait_class.specs.declared.stages.Doing.TheVariants as doing
use Rattle.wait_class.specs.declared.stages.Turn.TheVariants as turn
use Rattle.wait_event.specs.Waits.{off_by}
use Rattle.wait_leave.specs.Leaves.{with_asked}
use Rattle.futex_table.specs.{declared.waits.TheConstants.AGAIN, declared.waits.FutexOutcome.FutexOutcome}
use Rattle.futex_table.specs.{declared.waits.FutexStage.FutexStage, declared.waits.FutexWait.FutexWait}
use Rattle.futex_table.specs.declared.waits.FutexOutcome.TheVariants as outcome
use Rattle.futex_table.specs.declared.waits.FutexStage.TheVariants as stage

-- The word of a futex, and its head.
abbrev pub futex_word : ℕ → Watch
futex_word f = watch.Plain f

abbrev pub futex_head : ℕ → ℕ
futex_head f = head_of (futex_word f)

-- `-EAGAIN`
abbrev pub other_value : Answer
other_value = answer.Number AGAIN

abbrev pub gives_head : ℕ → Next → Planned
gives_head f n = record { event = event.Unlock (futex_head f) false; next = n }

-- behind the last hold: a signal was found, or the wait is made anew
abbrev pub left_next : Bool → Next
left_next hit = if hit then next.Ends signalled else next.Go (at.Add adding.Lock)

-- The program. In one hold of the head the word is loaded and compared, and where it has the expected value the own
-- entry is queued at the tail and the state stored; then the task sleeps. Behind the sleep it looks whether its entry
-- is off: whoever woke it took that off. Where it is queued still, it is taken off in a hold, after a look for a signal;
-- a wait that found none begins anew. One that is left goes the way of one that found a signal. The names of the points
-- are those of the model for the same events.
abbrev pub futex_makes : ℕ → ℕ → SleepState → ℕ → Point → Seen → Planned
futex_makes f v st me (at.Add adding.Lock) seen = go (event.Lock (futex_head f)) (at.Await (awaiting.Load false))
futex_makes f v st me (at.Await (awaiting.Load false)) seen = go (event.Load (number_of (futex_word f)) seen.value)
    (if seen.value == v then at.Prepare preparing.Queue else at.Leave leaving.Unlock)
futex_makes f v st me (at.Leave leaving.Unlock) seen = gives_head f (next.Ends other_value)
futex_makes f v st me (at.Prepare preparing.Queue) seen =
    if is_some seen.entry
    then go (event.State (state_mask st)) (at.Prepare preparing.Unlock)
    else if seen.worn
    then gives_head f (next.Ends answer.Worn)
    else go (event.Queue (futex_head f) forms.Tail) (at.Prepare preparing.State)
futex_makes f v st me (at.Prepare preparing.State) seen = go (event.State (state_mask st)) (at.Prepare preparing.Unlock)
futex_makes f v st me (at.Prepare preparing.Unlock) seen = gives_head f (next.Go at.Sleep)
futex_makes f v st me at.Sleep seen = sleep_event seen (at.Finish finishing.Look false)
futex_makes f v st me (at.Finish finishing.Look false) seen =
    if is_some seen.entry
    then go (event.Queued true) (at.Finish finishing.Lock false)
    else ends_with (event.Queued false) zero_answer
futex_makes f v st me (at.Finish finishing.Lock false) seen = go (event.Lock (futex_head f))
    (if looks_in st then at.Leave leaving.Queue else at.Finish finishing.Queue false)
futex_makes f v st me (at.Leave leaving.Queue) seen =
    if is_some seen.entry
    then go (event.Look (pending (state_mask st) seen.own))
    (at.Finish finishing.Queue (pending (state_mask st) seen.own))
    else gives_head f (next.Ends zero_answer)
futex_makes f v st me (at.Finish finishing.Queue hit) seen =
    if is_some seen.entry
    then go (event.Unqueue me) (at.Finish finishing.Unlock hit)
    else gives_head f (next.Ends zero_answer)
futex_makes f v st me (at.Finish finishing.Unlock hit) seen = gives_head f (left_next hit)
futex_makes f v st me p seen = gives_head f (next.Ends zero_answer)

-- the state may be another than RUNNING from its store to the sleep
abbrev pub futex_stirs : Point → Bool
futex_stirs (at.Prepare preparing.Unlock) = true
futex_stirs at.Sleep = true
futex_stirs _ = false

-- Its entry is that of an exclusive wait for a plain condition.
abbrev pub futex_plan : ℕ → ℕ → SleepState → Plan
futex_plan f v st = record {
  makes = λ me p seen. futex_makes f v st me p seen;
  given = given_at (calls.Wait f (record { state = st; exclusive = true }));
  watch = futex_word f;
  state = st;
  form = forms.Tail;
  numbers = v ∷ [];
  asked = false;
  watches = λ p. futex_word f;
  head = λ p. futex_head f;
  stirs = futex_stirs;
}

-- The stages: the point of the program, and whether the ticket of its lock is drawn.
abbrev pub futex_point : FutexStage → Point
futex_point stage.First = at.Add adding.Lock
futex_point stage.Turn = at.Add adding.Lock
futex_point stage.Load = at.Await (awaiting.Load false)
futex_point stage.Again = at.Leave leaving.Unlock
futex_point stage.Queue = at.Prepare preparing.Queue
futex_point stage.State = at.Prepare preparing.State
futex_point stage.Unlock = at.Prepare preparing.Unlock
futex_point stage.Sleep = at.Sleep
futex_point stage.Queued = at.Finish finishing.Look false
futex_point stage.OffLock = at.Finish finishing.Lock false
futex_point stage.OffTurn = at.Finish finishing.Lock false
futex_point stage.OffLook = at.Leave leaving.Queue
futex_point (stage.Off hit) = at.Finish finishing.Queue hit
futex_point (stage.OffUnlock hit) = at.Finish finishing.Unlock hit
futex_point (stage.Leave fresh) = at.Finish finishing.Queue true
futex_point (stage.LeaveUnlock fresh) = at.Finish finishing.Unlock true

abbrev pub futex_turn : FutexStage → Bool
futex_turn stage.Turn = true
futex_turn stage.OffTurn = true
futex_turn _ = false

abbrev pub futex_doing : FutexStage → Doing
futex_doing stage.First = doing.Draw
futex_doing stage.Turn = doing.Lock
futex_doing stage.Load = doing.Own
futex_doing stage.Again = doing.Unlock
futex_doing stage.Queue = doing.Queue
futex_doing stage.State = doing.State
futex_doing stage.Unlock = doing.Unlock
futex_doing stage.Sleep = doing.Sleep
futex_doing stage.Queued = doing.Peek
futex_doing stage.OffLock = doing.Draw
futex_doing stage.OffTurn = doing.Lock
futex_doing stage.OffLook = doing.Heed
futex_doing (stage.Off hit) = doing.Pare
futex_doing (stage.OffUnlock hit) = doing.Unlock
futex_doing (stage.Leave fresh) = doing.Pare
futex_doing (stage.LeaveUnlock fresh) = doing.Unlock

-- How many events are left at most until no head is held; one fewer is told of a wait that is left, since it goes there
-- from the stage at which it takes its entry off.
abbrev pub futex_depth : FutexStage → ℕ
futex_depth stage.Load = 4
futex_depth stage.Again = 1
futex_depth stage.Queue = 3
futex_depth stage.State = 2
futex_depth stage.Unlock = 1
futex_depth stage.OffLook = 3
futex_depth (stage.Off hit) = 2
futex_depth (stage.OffUnlock hit) = 1
futex_depth (stage.Leave fresh) = 1
futex_depth (stage.LeaveUnlock fresh) = 0
futex_depth _ = 5

abbrev pub futex_drawn : FutexStage → FutexStage
futex_drawn stage.First = stage.Turn
futex_drawn stage.OffLock = stage.OffTurn
futex_drawn s = s

-- where a wait goes on: behind its second lock, a lock, an unlock and a store of the state; by the value that it loaded;
-- by whether its entry is queued still, by whether a signal is there, and by what came of its add
abbrev pub leaves_first : Bool → Turn FutexStage FutexOutcome
leaves_first looks = if looks then turn.Again stage.OffLook else turn.Again (stage.Off false)

abbrev pub futex_next : FutexWait → FutexStage → Turn FutexStage FutexOutcome
futex_next r stage.Turn = turn.Again stage.Load
futex_next r stage.Again = turn.Done outcome.Again
futex_next r stage.State = turn.Again stage.Unlock
futex_next r stage.Unlock = turn.Again stage.Sleep
futex_next r stage.OffTurn = leaves_first (looks_in r.state)
futex_next r (stage.OffUnlock true) = turn.Done outcome.Interrupted
futex_next r (stage.OffUnlock false) = turn.Again stage.First
futex_next r (stage.LeaveUnlock fresh) = turn.Done (outcome.Left false)
futex_next r s = turn.Again s

abbrev pub compared_to : Bool → Turn FutexStage FutexOutcome
compared_to same = if same then turn.Again stage.Queue else turn.Again stage.Again

abbrev pub futex_loaded : FutexWait → FutexStage → ℕ → Turn FutexStage FutexOutcome
futex_loaded r s v = compared_to (v == r.expected)

abbrev pub futex_found : FutexStage → Bool → Turn FutexStage FutexOutcome
futex_found stage.Queued found = if found then turn.Again stage.OffLock else turn.Done outcome.Over
futex_found (stage.Off hit) found = if found then turn.Again (stage.OffUnlock hit) else turn.Done outcome.Over
futex_found stage.OffLook found = if found then turn.Again stage.OffLook else turn.Done outcome.Over
futex_found (stage.Leave fresh) found = if found then turn.Again (stage.LeaveUnlock fresh)
    else if fresh then turn.Done (outcome.Left true) else turn.Done outcome.Over
futex_found s found = turn.Again s

abbrev pub futex_added : Added → Turn FutexStage FutexOutcome
futex_added adds.Joined = turn.Again stage.State
futex_added adds.Stayed = turn.Again stage.Unlock
futex_added adds.Worn = turn.Done outcome.Worn

abbrev pub futex_state : FutexWait → FutexStage → ℕ
futex_state r stage.State = state_mask r.state
futex_state r _ = 0

-- where a wait goes on that was put asleep
abbrev pub is_behind_futex_sleep : FutexStage → Bool
is_behind_futex_sleep stage.Queued = true
is_behind_futex_sleep _ = false

-- a wait that has not begun
pub record IsFreshFutexWait (r : FutexWait) (f v : ℕ) (st : SleepState) : Type 0 where
  pub futex : r.futex ≡ f
  pub expected : r.expected ≡ v
  pub state : r.state ≡ st
  pub unasked : r.asked ≡ false

-- futexes are the plain conditions with full heads
abbrev pub IsFutex : FutexWait → Type 0
IsFutex r = r.futex < FIRST_SIMPLE

-- The history ends with a lock of the futex's head, a load of its word in that hold, which found this value, and these
-- steps.
pub record HasLoadedWord (k : Known) (f v : ℕ) (more : List Step) : Type 0 where
  pub aim : Option Aim
  pub word : ℕ
  pub ends : EndsWith k (step.Lock (futex_head f) aim word ∷ step.Load (futex_word f) v ∷ more)

-- looks at entries alone
abbrev pub AreSaws : List Step → Type 0
AreSaws [] = Unit {0}
AreSaws (step.Saw x w ∷ es) = AreSaws es
AreSaws (e ∷ es) = ⊥

-- Entry x was queued for the futex in a hold of its head in which the word had been loaded, and this value found; in
-- between entries were looked at alone, and these steps came behind.
pub record QueuedByValue (es : List Step) (x f v : ℕ) (more : List Step) : Type 0 where
  pub before : List Step
  pub aim : Option Aim
  pub word : ℕ
  pub looks : List Step
  pub entry : Entry
  pub saws : AreSaws looks
  pub watch : entry.watch ≡ futex_word f
  pub kind : entry.kind ≡ kind_for (futex_word f)
  pub is : es ≡ before ++ step.Lock (futex_head f) aim word ∷ step.Load (futex_word f) v ∷ (looks
      ++ step.Queue x entry ∷ more)

-- and behind it the state was stored, the head given back, and the task slept
abbrev pub slept_steps : FutexWait → ℕ → List Step
slept_steps r w = step.State (state_mask r.state) ∷ step.Unlock (futex_head r.futex) false ∷ step.Sleep w ∷ []

abbrev pub HasQueuedBy : Known → FutexWait → List Step → Type 0
HasQueuedBy k r more = QueuedByValue (history_of k) (own_of k) r.futex r.expected more

pub record SleptByValue (k : Known) (r : FutexWait) : Type 0 where
  pub found : ℕ
  pub queued : HasQueuedBy k r (slept_steps r found)

-- the own word showed a signal that the state admits
abbrev pub ShowsSignal : FutexWait → ℕ → Type 0
ShowsSignal r w = pending (state_mask r.state) (task_of w) ≡ true

-- The last steps of a wait that a signal ended: in one hold its own word showed a signal that the state admits, and its
-- entry was queued still, and was taken off.
pub record LeftForSignal (k : Known) (r : FutexWait) (more : List Step) : Type 0 where
  pub look : ℕ
  pub entry : ℕ
  pub showed : ShowsSignal r look
  pub stood : is_some (entry_of entry) ≡ true
  pub ends : EndsWith k (step.Look look ∷ step.Saw (own_of k) entry ∷ step.Unqueue (own_of k) ∷ more)

-- The last steps of a wait that was woken: its entry was found off, without the lock or in a hold.
pub record FoundOff (k : Known) (f : ℕ) : Type 0 where
  pub entry : ℕ
  pub off : is_some (entry_of entry) ≡ false
  pub ends : EndsWith k (step.Peek (own_of k) entry ∷ [])
      ⊎ EndsWith k (step.Saw (own_of k) entry ∷ step.Unlock (futex_head f) false ∷ [])

-- a load
abbrev pub is_word_load : Step → Bool
is_word_load (step.Load w v) = true
is_word_load _ = false

-- The entry was queued in a hold in which the word had been loaded, with the expected value; the task has loaded nothing
-- since.
pub record StandsByValue (k : Known) (r : FutexWait) : Type 0 where
  pub since : List Step
  pub queued : HasQueuedBy k r since
  pub unloaded : Lacks is_word_load since

-- The last steps of a wait that was left where it had queued its entry so: that was queued still, and was taken off.
pub record LeftByValue (k : Known) (f v : ℕ) (more : List Step) : Type 0 where
  pub since : List Step
  pub unloaded : Lacks is_word_load since
  pub entry : ℕ
  pub stood : is_some (entry_of entry) ≡ true
  pub queued : QueuedByValue (history_of k) (own_of k) f v (since
      ++ step.Saw (own_of k) entry ∷ step.Unqueue (own_of k) ∷ more)

-- Where it had queued none: one hold loaded the word, with the expected value, and looked at the entry, which was off or
-- was taken off.
pub record LeftAtOnce (k : Known) (f v : ℕ) : Type 0 where
  pub entry : ℕ
  pub loaded : HasLoadedWord k f v (off_by (own_of k) (futex_head f) entry)

pub record TakenAtOnce (k : Known) (f v : ℕ) : Type 0 where
  pub entry : ℕ
  pub stood : is_some (entry_of entry) ≡ true
  pub loaded : HasLoadedWord k f v (step.Saw (own_of k) entry ∷ step.Unqueue (own_of k) ∷ [])

-- So either way the load of its last hold in which it meant to sleep found the expected value, and it took its entry off
-- by itself.
abbrev pub HasLeftFutex : Known → ℕ → ℕ → Type 0
HasLeftFutex k f v = LeftAtOnce k f v ⊎ LeftByValue k f v (step.Unlock (futex_head f) false ∷ [])

-- what a stage and an outcome say of the last steps
abbrev pub FutexTrail : Known → FutexWait → FutexStage → Type 0
FutexTrail k r stage.First = IsOut k
FutexTrail k r stage.Turn = IsOut k
FutexTrail k r stage.Load = IsOut k × ((aim : Option Aim) × (w : ℕ)
    × EndsWith k (step.Lock (futex_head r.futex) aim w ∷ []))
FutexTrail k r stage.Again = HasLoadedWord k r.futex r.seen [] × ((r.seen == r.expected) ≡ false)
FutexTrail k r stage.Queue = IsOut k × HasLoadedWord k r.futex r.expected []
FutexTrail k r stage.State = HasQueuedBy k r []
FutexTrail k r stage.Unlock = HasQueuedBy k r (step.State (state_mask r.state) ∷ [])
FutexTrail k r stage.Sleep = HasQueuedBy k r (step.State (state_mask r.state)
    ∷ step.Unlock (futex_head r.futex) false ∷ [])
FutexTrail k r stage.Queued = SleptByValue k r
FutexTrail k r stage.OffLock = StandsByValue k r
FutexTrail k r stage.OffTurn = StandsByValue k r
FutexTrail k r stage.OffLook = StandsByValue k r
FutexTrail k r (stage.Off false) = StandsByValue k r
FutexTrail k r (stage.Off true) = (w : ℕ) × ShowsSignal r w × EndsWith k (step.Look w ∷ [])
FutexTrail k r (stage.OffUnlock true) = LeftForSignal k r []
FutexTrail k r (stage.OffUnlock false) = IsOut k
FutexTrail k r (stage.Leave false) = (r.asked ≡ true) × StandsByValue k r
FutexTrail k r (stage.Leave true) = (r.asked ≡ true) × HasLoadedWord k r.futex r.expected []
FutexTrail k r (stage.LeaveUnlock false) = (r.asked ≡ true) × LeftByValue k r.futex r.expected []
FutexTrail k r (stage.LeaveUnlock true) = (r.asked ≡ true) × TakenAtOnce k r.futex r.expected

abbrev pub FutexTrailEnd : Known → FutexWait → FutexOutcome → Type 0
FutexTrailEnd k r outcome.Over = FoundOff k r.futex
FutexTrailEnd k r outcome.Again = HasLoadedWord k r.futex r.seen (step.Unlock (futex_head r.futex) false ∷ [])
    × ((r.seen == r.expected) ≡ false)
FutexTrailEnd k r outcome.Interrupted = LeftForSignal k r (step.Unlock (futex_head r.futex) false ∷ [])
FutexTrailEnd k r outcome.Worn = FoundWorn k (futex_head r.futex) r.place []
FutexTrailEnd k r (outcome.Left off) = (r.asked ≡ true) × HasLeftFutex k r.futex r.expected

-- the wait has ended: the task is awake, RUNNING, holds no head, and its entry is off
abbrev pub futex_end : FutexWait → FutexOutcome → Post
futex_end r o = record {
  head = None;
  ticket = no_ticket;
  stirs = false;
  state = 0;
  zone = absent;
  watch = futex_word r.futex;
}

abbrev pub futex_answer : FutexOutcome → Answer
futex_answer outcome.Over = zero_answer
futex_answer outcome.Again = other_value
futex_answer outcome.Interrupted = signalled
futex_answer outcome.Worn = answer.Worn
futex_answer (outcome.Left false) = signalled
futex_answer (outcome.Left true) = zero_answer

abbrev pub futex_table : CallTable FutexWait FutexStage FutexOutcome
futex_table = record {
  plan_of = λ r. with_asked r.asked (futex_plan r.futex r.expected r.state);
  Fits = IsFutex;
  worn_at = λ r p. record r { place = p };
  joined_at = λ r s. r;
  point_of = futex_point;
  doing = futex_doing;
  drawn = futex_turn;
  took = λ s. false;
  depth = futex_depth;
  drawn_to = futex_drawn;
  next_of = futex_next;
  noted = λ r s v. record r { seen = v };
  loaded_to = futex_loaded;
  found_to = λ r s found. futex_found s found;
  heeded_to = λ r s hit. turn.Again (stage.Off hit);
  slept_to = λ r s. stage.Queued;
  asleep_at = is_behind_futex_sleep;
  added_to = λ r s a. futex_added a;
  state_at = futex_state;
  answer_of = futex_answer;
  has_taken = λ o. false;
  end_post = futex_end;
  Tells = λ r q ts. Unit {0};
  Trail = FutexTrail;
  TrailEnd = FutexTrailEnd;
  Keeps = KeepsAll;
}
