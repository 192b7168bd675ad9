-- To be believed.
-- A wait to take a bit: its tests, where it goes on behind each, and what its places say of its last steps.
use Rattle.std.specs.Prelude.{ℕ, ◌≡◌, ◌<◌, not, Bool, true, false, if◌then◌else◌, None, List, [], ◌∷◌, ◌++◌}
use Rattle.wait_model.specs.{declared.layout.TheConstants.BIT_WORDS, declared.layout.TheConstants.WORD_BITS}
use Rattle.wait_model.specs.{declared.calls.Answer.Answer, declared.calls.Call.Call, declared.points.Point.Point}
use Rattle.wait_model.specs.{declared.steps.Step.Step, declared.tasks.SleepState.SleepState}
use Rattle.wait_model.specs.{declared.watches.Watch.Watch, Programs.interrupted, Programs.zero_answer}
use Rattle.wait_model.specs.{PointFacts.absent, Watches.head_of, Words.bit_at}
use Rattle.wait_model.specs.Tasks.{looks_in, pending, state_mask, task_of}
use Rattle.wait_model.specs.declared.calls.Answer.TheVariants as answer
use Rattle.wait_model.specs.declared.calls.Call.TheVariants as calls
use Rattle.wait_model.specs.declared.points.BitPoint.TheVariants as biting
use Rattle.wait_model.specs.declared.points.Point.TheVariants as at
use Rattle.wait_model.specs.declared.steps.Step.TheVariants as step
use Rattle.wait_model.specs.declared.watches.Watch.TheVariants as watch
use Rattle.wait_rule.specs.{Bits.KeepsBitOf, Known.Known, Says.history_of, Says.told_of, Tickets.no_ticket}
use Rattle.wait_class.specs.{declared.frame_stages.Framed.Framed, declared.frame_stages.Stage.Stage}
use Rattle.wait_class.specs.{declared.stages.Turn.Turn, Frames.FrameTable, Frames.framed}
use Rattle.wait_class.specs.Posts.{Post, EndsWith, FoundWorn}
use Rattle.wait_class.specs.Tables.{has_sleep, CallTable, call_plan}
use Rattle.wait_class.specs.declared.frame_stages.Stage.TheVariants as stage
use Rattle.wait_class.specs.declared.stages.Turn.TheVariants as turn
use Rattle.bit_wait.specs.{LockStays.LockKeeps, declared.lock_runs.LockBit.LockBit}
use Rattle.bit_wait.specs.{declared.lock_runs.LockOutcome.LockOutcome, declared.lock_runs.LockTest.LockTest}
use Rattle.bit_wait.specs.LockEnds.{ComesBehindWorn, FoundNoPlaceForLock, WasLockInterrupted, WasLeft, lock_end_in}
use Rattle.wait_leave.specs.Leaves.{with_asked}
use Rattle.bit_wait.specs.declared.lock_runs.LockOutcome.TheVariants as outcome
use Rattle.bit_wait.specs.declared.lock_runs.LockTest.TheVariants as test

abbrev pub lock_bit_in : LockBit → Watch
lock_bit_in r = watch.Bit r.word r.bit

abbrev pub lock_head_in : LockBit → ℕ
lock_head_in r = head_of (lock_bit_in r)

-- the numbers of a wait are in their ranges
pub record IsRunningLock (r : LockBit) : Type 0 where
  pub word : r.word < BIT_WORDS
  pub bit : r.bit < WORD_BITS

abbrev pub lock_test_point : LockTest → Point
lock_test_point test.First = at.Bit biting.First
lock_test_point test.Load = at.Bit biting.Load
lock_test_point test.Again = at.Bit (biting.Again false)
lock_test_point test.Worn = at.Worn
lock_test_point test.Last = at.Bit biting.Last

-- the test behind a hold that found no place
abbrev pub stands_worn : LockTest → Bool
stands_worn test.Worn = true
stands_worn _ = false

abbrev pub is_lock_load : LockTest → Bool
is_lock_load test.Load = true
is_lock_load _ = false

-- where a wait goes on that tried the bit and found it set or not, that loaded it, that finished, that slept, and that
-- looked for a signal
abbrev pub LockTurn : Type 0
LockTurn = Turn (Stage LockTest) LockOutcome

abbrev pub tried_to : LockTest → Bool → LockTurn
tried_to test.Again set = if set then turn.Again stage.PrepareLock else turn.Again (stage.FinishState false)
tried_to test.Last set = if set then turn.Done outcome.Interrupted else turn.Done outcome.Over
tried_to test.Worn set = if set then turn.Done outcome.Worn else turn.Done outcome.Over
tried_to _ set = if set then turn.Again stage.PrepareLock else turn.Done outcome.Over

abbrev pub lock_loaded_to : LockBit → LockTest → ℕ → LockTurn
lock_loaded_to r x v = if bit_at v r.bit then turn.Again stage.Sleep else turn.Again (stage.Test test.Again)

abbrev pub finished_to : LockBit → Bool → LockTurn
finished_to r failed = if failed then turn.Again (stage.Test test.Last) else turn.Done outcome.Over

abbrev pub lock_slept_to : LockBit → Stage LockTest
lock_slept_to r = if looks_in r.state then stage.Look else stage.Test test.Again

abbrev pub lock_looked_to : LockBit → Bool → LockTurn
lock_looked_to r hit = if hit then turn.Again (stage.FinishState true) else turn.Again (stage.Test test.Again)

abbrev pub answer_to_lock : LockOutcome → Answer
answer_to_lock outcome.Over = zero_answer
answer_to_lock outcome.Interrupted = interrupted
answer_to_lock outcome.Worn = answer.Worn

abbrev pub is_lock_over : LockOutcome → Bool
is_lock_over outcome.Over = true
is_lock_over _ = false

-- The wait has ended: the task is awake, holds no head, and its entry is off. It is RUNNING, but that one which found
-- no place may still be in the state that its last turn but one stored.
abbrev pub lock_end_post : LockBit → LockOutcome → Post
lock_end_post r o = record {
  head = None;
  ticket = no_ticket;
  stirs = r.worn;
  state = state_mask r.state;
  zone = absent;
  watch = lock_bit_in r;
}

-- The last turn of a wait that found a signal: the task slept, and then its own word showed a signal that the state
-- admits. It has not slept since.
pub record FoundLockSignal (k : Known) (st : SleepState) : Type 0 where
  pub before : List Step
  pub sleep : ℕ
  pub look : ℕ
  pub more : List Step
  pub ends : history_of k ≡ before ++ (step.Sleep sleep ∷ step.Look look ∷ more)
  pub pends : pending (state_mask st) (task_of look) ≡ true
  pub awake : has_sleep more ≡ false

-- the bit was taken, and the task is not to try it
pub record HasTakenBit (k : Known) (c : Watch) : Type 0 where
  pub keeps : KeepsBitOf k c
  pub tries : (told_of k).bits.pending c ≡ false

-- what a test-and-set of the bit adds, as the last one found it
abbrev pub tries_bit : LockBit → List Step
tries_bit r = step.Consume (lock_bit_in r) 1 r.seen ∷ []

-- why it failed: it was asked to leave, or found a signal
abbrev pub FailTrail : Bool → Known → LockBit → Type 0
FailTrail true k r = Unit {0}
FailTrail false k r = FoundLockSignal k r.state

abbrev pub TestTrail : Known → LockBit → LockTest → Type 0
TestTrail k r test.Worn = FoundWorn k (lock_head_in r) r.place [] × (r.worn ≡ true)
TestTrail k r test.Last = FailTrail r.asked k r
TestTrail k r _ = Unit {0}

abbrev pub FinishTrail : Known → LockBit → Bool → Type 0
FinishTrail k r true = FailTrail r.asked k r
FinishTrail k r false = HasTakenBit k (lock_bit_in r) × (r.worn ≡ false)

-- the cause of an end: a wait that failed was asked to leave, or a signal ended it
abbrev pub WhyFailed : Bool → Known → LockBit → Type 0
WhyFailed true k r = WasLeft k r.word r.bit r.seen
WhyFailed false k r = WasLockInterrupted k r.word r.bit r.state r.seen

abbrev pub CauseIn : Known → LockBit → LockOutcome → Type 0
CauseIn k r outcome.Over = Unit {0}
CauseIn k r outcome.Interrupted = WhyFailed r.asked k r
CauseIn k r outcome.Worn = FoundNoPlaceForLock k r.word r.bit (lock_head_in r) r.place

-- The answer has its cause, and comes behind a hold that found no place where the run says so; the task keeps the bit
-- where it took it, and is not to try it.
pub record EndTrail (k : Known) (r : LockBit) (o : LockOutcome) : Type 0 where
  pub cause : CauseIn k r o
  pub behind : ComesBehindWorn k r.word r.bit (lock_end_in r o) r.worn
  pub keeps : is_lock_over o ≡ true → KeepsBitOf k (lock_bit_in r)
  pub tries : (told_of k).bits.pending (lock_bit_in r) ≡ false

abbrev pub lock_bit_call : LockBit → Call
lock_bit_call r = calls.LockBit r.word r.bit r.state

abbrev pub lock_frame : FrameTable LockBit LockTest LockOutcome
lock_frame = record {
  plan_of = λ r. with_asked r.asked (call_plan (lock_bit_call r));
  Fits = IsRunningLock;
  worn_at = λ r p. record r { place = p; worn = true };
  test_point = lock_test_point;
  loads = is_lock_load;
  took = λ x. false;
  took_finish = not;
  sleep_point = at.Bit biting.Sleep;
  look_point = at.Bit biting.Look;
  prepared = test.Load;
  worn_to = test.Worn;
  finished = finished_to;
  slept_to = lock_slept_to;
  looked = lock_looked_to;
  noted = λ r x v. r;
  loaded_to = lock_loaded_to;
  answer_of = answer_to_lock;
  has_taken = is_lock_over;
  end_post = lock_end_post;
  TestTrail = TestTrail;
  SleepTrail = λ k r. Unit {0};
  LookTrail = λ k r. (w : ℕ) × EndsWith k (step.Sleep w ∷ []);
  FinishTrail = FinishTrail;
  TrailEnd = EndTrail;
  Keeps = LockKeeps;
}

abbrev pub lock_table : CallTable (Framed LockBit) (Stage LockTest) LockOutcome
lock_table = framed lock_frame

-- a wait that has not begun
pub record IsFreshLock (r : LockBit) (w b : ℕ) (st : SleepState) : Type 0 where
  pub word : r.word ≡ w
  pub bit : r.bit ≡ b
  pub state : r.state ≡ st
