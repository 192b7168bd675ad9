-- To be believed.
-- A wait until a bit is clear: its tests, where it goes on behind each, and what its places say of its last steps.
use Rattle.std.specs.Prelude.{ℕ, ◌≡◌, ◌<◌, ◌&&◌, not, Bool, true, false, if◌then◌else◌, None, List, [], ◌∷◌}
use Rattle.wait_model.specs.{declared.layout.TheConstants.BIT_WORDS, declared.layout.TheConstants.WORD_BITS}
use Rattle.wait_model.specs.{declared.calls.Answer.Answer, declared.calls.Call.Call, declared.points.Point.Point}
use Rattle.wait_model.specs.{declared.steps.Step.Step, declared.tasks.SleepState.SleepState}
use Rattle.wait_model.specs.{declared.watches.Watch.Watch, Programs.interrupted, Programs.zero_answer}
use Rattle.wait_model.specs.{PointFacts.absent, Tasks.looks_in, Tasks.state_mask, Watches.head_of, Words.bit_at}
use Rattle.wait_model.specs.declared.calls.Answer.TheVariants as answer
use Rattle.wait_model.specs.declared.calls.Call.TheVariants as calls
use Rattle.wait_model.specs.declared.points.BitPoint.TheVariants as biting
use Rattle.wait_model.specs.declared.points.Point.TheVariants as at
use Rattle.wait_model.specs.declared.steps.Step.TheVariants as step
use Rattle.wait_model.specs.declared.watches.Watch.TheVariants as watch
use Rattle.wait_rule.specs.{Known.Known, Tickets.no_ticket}
use Rattle.wait_class.specs.{declared.frame_stages.Framed.Framed, declared.frame_stages.Stage.Stage}
use Rattle.wait_class.specs.{declared.stages.Turn.Turn, Tables.CallTable, Tables.call_plan}
use Rattle.wait_class.specs.Posts.{Post, EndsWith, FoundWorn}
use Rattle.wait_class.specs.Frames.{FrameTable, KeepsAll, framed}
use Rattle.wait_class.specs.declared.frame_stages.Stage.TheVariants as stage
use Rattle.wait_class.specs.declared.stages.Turn.TheVariants as turn
use Rattle.bit_wait.specs.{declared.waits.BitOutcome.BitOutcome, declared.waits.BitTest.BitTest}
use Rattle.bit_wait.specs.declared.waits.WaitBit.{WaitBit}
use Rattle.bit_wait.specs.BitEnds.{FoundNoPlaceForBit, HasLoadedBit, WasBitInterrupted}
use Rattle.wait_leave.specs.Leaves.{with_asked}
use Rattle.bit_wait.specs.declared.waits.BitOutcome.TheVariants as outcome
use Rattle.bit_wait.specs.declared.waits.BitTest.TheVariants as test

abbrev pub wait_bit_in : WaitBit → Watch
wait_bit_in r = watch.Bit r.word r.bit

-- the numbers of a wait are in their ranges
pub record IsRunningBitWait (r : WaitBit) : Type 0 where
  pub word : r.word < BIT_WORDS
  pub bit : r.bit < WORD_BITS

abbrev pub bit_test_point : BitTest → Point
bit_test_point test.First = at.Bit biting.First
bit_test_point test.Load = at.Bit biting.Load
bit_test_point (test.Again failed) = at.Bit (biting.Again failed)
bit_test_point test.Worn = at.Worn

-- what a load notes, and where a wait goes on that found the bit set or not, that finished, that slept, and that looked
-- for a signal
abbrev pub bit_noted : WaitBit → BitTest → ℕ → WaitBit
bit_noted r test.First v = r
bit_noted r (test.Again failed) v = record r { last = v }
bit_noted r _ v = record r { seen = v }

abbrev pub set_to : BitTest → Bool → Turn (Stage BitTest) BitOutcome
set_to test.First set = if set then turn.Again stage.PrepareLock else turn.Done outcome.Over
set_to test.Load set = if set then turn.Again stage.Sleep else turn.Again (stage.Test (test.Again false))
set_to (test.Again failed) set = if set && not failed then turn.Again stage.PrepareLock
    else turn.Again (stage.FinishState failed)
set_to test.Worn set = if set then turn.Done outcome.Worn else turn.Again (stage.FinishState false)

abbrev pub bit_finished_to : WaitBit → Bool → Turn (Stage BitTest) BitOutcome
bit_finished_to r failed = if failed then turn.Done outcome.Interrupted else turn.Done outcome.Over

abbrev pub bit_slept_to : WaitBit → Stage BitTest
bit_slept_to r = if looks_in r.state then stage.Look else stage.Test (test.Again false)

abbrev pub answer_to_bit : BitOutcome → Answer
answer_to_bit outcome.Over = zero_answer
answer_to_bit outcome.Interrupted = interrupted
answer_to_bit outcome.Worn = answer.Worn

-- The wait has ended: the task is awake, holds no head, and its entry is off. It is RUNNING, but that one which found
-- no place may still be in the state that its last turn but one stored.
abbrev pub is_bit_worn : BitOutcome → Bool
is_bit_worn outcome.Worn = true
is_bit_worn _ = false

abbrev pub bit_end_post : WaitBit → BitOutcome → Post
bit_end_post r o = record {
  head = None;
  ticket = no_ticket;
  stirs = is_bit_worn o;
  state = state_mask r.state;
  zone = absent;
  watch = wait_bit_in r;
}

-- the steps of a turn, from the hold of its prepare on
abbrev pub loads_set : WaitBit → List Step → List Step
loads_set r es = step.Unlock (head_of (wait_bit_in r)) false ∷ step.Load (wait_bit_in r) r.seen ∷ es

-- why it fails: it was asked to leave, and has loaded the bit since, or it found a signal
abbrev pub BitWhyFailed : Bool → Known → WaitBit → Type 0
BitWhyFailed true k r = HasLoadedBit k r.word r.bit r.last
BitWhyFailed false k r = WasBitInterrupted k r.word r.bit r.state r.seen

-- and what is said of that before the load behind
abbrev pub BitAgainTrail : Bool → Known → WaitBit → Type 0
BitAgainTrail true k r = Unit {0}
BitAgainTrail false k r = WasBitInterrupted k r.word r.bit r.state r.seen

abbrev pub BitFinishTrail : Known → WaitBit → Bool → Type 0
BitFinishTrail k r true = BitWhyFailed r.asked k r
BitFinishTrail k r false = Unit {0}

-- the cause of an end
abbrev pub BitCauseIn : Known → WaitBit → BitOutcome → Type 0
BitCauseIn k r outcome.Over = Unit {0}
BitCauseIn k r outcome.Interrupted = BitWhyFailed r.asked k r
BitCauseIn k r outcome.Worn = FoundNoPlaceForBit k r.word r.bit (head_of (wait_bit_in r)) r.place

abbrev pub BitTestTrail : Known → WaitBit → BitTest → Type 0
BitTestTrail k r test.First = Unit {0}
BitTestTrail k r test.Load = EndsWith k (step.Unlock (head_of (wait_bit_in r)) false ∷ [])
BitTestTrail k r (test.Again true) = BitAgainTrail r.asked k r
BitTestTrail k r (test.Again false) = Unit {0}
BitTestTrail k r test.Worn = FoundWorn k (head_of (wait_bit_in r)) r.place []

abbrev pub wait_bit_call : WaitBit → Call
wait_bit_call r = calls.WaitBit r.word r.bit r.state

abbrev pub bit_frame : FrameTable WaitBit BitTest BitOutcome
bit_frame = record {
  plan_of = λ r. with_asked r.asked (call_plan (wait_bit_call r));
  Fits = IsRunningBitWait;
  worn_at = λ r p. record r { place = p };
  test_point = bit_test_point;
  loads = λ x. true;
  took = λ x. false;
  took_finish = λ failed. false;
  sleep_point = at.Bit biting.Sleep;
  look_point = at.Bit biting.Look;
  prepared = test.Load;
  worn_to = test.Worn;
  finished = bit_finished_to;
  slept_to = bit_slept_to;
  looked = λ r hit. turn.Again (stage.Test (test.Again hit));
  noted = bit_noted;
  loaded_to = λ r x v. set_to x (bit_at v r.bit);
  answer_of = answer_to_bit;
  has_taken = λ o. false;
  end_post = bit_end_post;
  TestTrail = BitTestTrail;
  SleepTrail = λ k r. EndsWith k (loads_set r []) × (bit_at r.seen r.bit ≡ true);
  LookTrail = λ k r. (w : ℕ) × EndsWith k (loads_set r (step.Sleep w ∷ [])) × (bit_at r.seen r.bit ≡ true);
  FinishTrail = BitFinishTrail;
  TrailEnd = BitCauseIn;
  Keeps = KeepsAll;
}

abbrev pub bit_table : CallTable (Framed WaitBit) (Stage BitTest) BitOutcome
bit_table = framed bit_frame

-- a wait that has not begun
pub record IsFreshBitWait (r : WaitBit) (w b : ℕ) (st : SleepState) : Type 0 where
  pub word : r.word ≡ w
  pub bit : r.bit ≡ b
  pub state : r.state ≡ st
  pub unasked : r.asked ≡ false
