-- To be believed.
-- Where a call stands between two of its stretches: it goes on there, or was put asleep and goes on there.
use Rattle.std.specs.Prelude.{◌≡◌, Bool, true, false}
use Rattle.wait_rule.specs.Known.{Known}
use Rattle.wait_event.specs.{declared.waits.WaitCall.WaitCall, declared.waits.WaitOutcome.WaitOutcome}
use Rattle.wait_event.specs.declared.waits.WaitStage.{WaitStage}
use Rattle.completion_cell.specs.declared.awaits.AwaitCall.{AwaitCall}
use Rattle.wait_class.specs.{declared.frame_stages.Framed.Framed, declared.frame_stages.Stage.Stage}
use Rattle.wait_class.specs.{declared.stages.Run.Run, declared.stages.Turn.Turn}
use Rattle.wait_class.specs.Tables.{Advances, IsAsleepAt, IsAt, CallTable}
use Rattle.wait_class.specs.declared.frame_stages.Stage.TheVariants as frame_stage
use Rattle.wait_class.specs.declared.stages.Turn.TheVariants as turn
use Rattle.bit_wait.specs.{declared.waits.BitOutcome.BitOutcome, declared.waits.BitTest.BitTest}
use Rattle.bit_wait.specs.{declared.waits.WaitBit.WaitBit, declared.lock_runs.LockBit.LockBit}
use Rattle.bit_wait.specs.declared.lock_runs.LockTest.{LockTest}
use Rattle.bit_wait.specs.declared.waits.BitTest.TheVariants as bit_test
use Rattle.bit_wait.specs.declared.lock_runs.LockTest.TheVariants as lock_test
use Rattle.page_lock.specs.declared.waits.LockPage.{LockPage}
use Rattle.wait_leave.specs.{Leaves.Exits, OnTheWay.OnTheWay}

-- the runs of waits, what a stretch of them did, and where those for bits begin
abbrev pub WaitRun : Type 0
WaitRun = Run WaitCall

abbrev pub WaitTurn : Type 0
WaitTurn = Turn WaitStage WaitOutcome

abbrev pub BitRun : Type 0
BitRun = Run (Framed WaitBit)

abbrev pub BitTurn : Type 0
BitTurn = Turn (Stage BitTest) BitOutcome

abbrev pub bit_first : Stage BitTest
bit_first = frame_stage.Test bit_test.First

abbrev pub LockRun : Type 0
LockRun = Run (Framed LockBit)

abbrev pub lock_first : Stage LockTest
lock_first = frame_stage.Test lock_test.First

abbrev pub PageRun : Type 0
PageRun = Run LockPage

abbrev pub AwaitRun : Type 0
AwaitRun = Run AwaitCall

-- a wait of the ground, by what its last stretch did
abbrev pub StandsBy : {C S O : Type 0} → CallTable C S O → Known → Run C → Turn S O → Type 0
StandsBy t k r (turn.Again s) = IsAt t k r s
StandsBy t k r (turn.Asleep s) = IsAsleepAt t k r s
StandsBy t k r (turn.Locked s) = IsAt t k r s
StandsBy t k r (turn.Done o) = ⊥

-- One stretch more of a wait that its task may leave, and was asked to leave where `asks` says so; one that was put asleep
-- was not.
abbrev pub StretchesOn : {C S O : Type 0} → Bool → CallTable C S O → Exits C S O → Known → Known → Run C → Run C → Turn S O
    → Turn S O → Type 0
StretchesOn asks t x old new r q (turn.Again s) u = OnTheWay (asks ≡ true) t x old r s new q u
StretchesOn asks t x old new r q (turn.Asleep s) u = Advances t old new r q s u
StretchesOn asks t x old new r q (turn.Locked s) u = OnTheWay (asks ≡ true) t x old r s new q u
StretchesOn asks t x old new r q (turn.Done o) u = ⊥

-- A call that began unasked, at this stage, has come to here: it went straight by its program, or, where it `may` have
-- been asked to leave, was on its way to stages at which it was, and went out there.
pub record HasComeBy {C S O : Type 0} (may : Bool) (t : CallTable C S O) (x : Exits C S O) (start k : Known)
    (first run : Run C) (s : S) (last : Turn S O) : Type 0 where
  pub unasked : (t.plan_of first.of).asked ≡ false
  pub way : OnTheWay (may ≡ true) t x start first s k run last
