-- To be believed.
-- A wait to take a bit that its task leaves: its exits, and what it says.
use Rattle.std.specs.Prelude.{ℕ, ◌≡◌, Bool, true, false, Option, Some, None, Result}
use Rattle.wait_model.specs.declared.points.BitPoint.TheVariants as biting
use Rattle.wait_model.specs.{declared.points.Point.Point, declared.tasks.SleepState.SleepState}
use Rattle.wait_model.specs.declared.points.Point.TheVariants as at
use Rattle.wait_rule.specs.Known.{Known}
use Rattle.wait_class.specs.{declared.frame_stages.Framed.Framed, declared.frame_stages.Stage.Stage}
use Rattle.wait_class.specs.{declared.stages.Run.Run, Wholes.HasRested}
use Rattle.wait_class.specs.declared.frame_stages.Stage.TheVariants as stage
use Rattle.wait_class.specs.declared.stages.Turn.TheVariants as turn
use Rattle.wait_leave.specs.{declared.exits.Exit.Exit, declared.exits.Until.Until, Leaves.Exits, OnTheWay.IsAwakeSince}
use Rattle.wait_leave.specs.OnTheWay.{OnTheWay}
use Rattle.wait_leave.specs.declared.exits.Until.TheVariants as until
use Rattle.bit_wait.specs.{LockTables.IsFreshLock, LockTables.lock_table, declared.wait_calls.BitEnd.BitEnd}
use Rattle.bit_wait.specs.{declared.lock_runs.LockBit.LockBit, declared.lock_runs.LockOutcome.LockOutcome}
use Rattle.bit_wait.specs.declared.lock_runs.LockTest.{LockTest}
use Rattle.bit_wait.specs.LockEnds.{IsLockCause, WasLeft, lock_end_in, has_taken_lock}
use Rattle.bit_wait.specs.declared.lock_runs.LockOutcome.TheVariants as outcome
use Rattle.bit_wait.specs.declared.lock_runs.LockTest.TheVariants as test

-- It goes out by its finish, as one that found a signal does: from its tests, its sleep and its look, and from where it
-- would draw a ticket to prepare. One that has drawn one prepares first. One that found no place, or that finishes, goes
-- on to its end.
abbrev pub out : Option (Exit (Stage LockTest) LockOutcome)
out = Some (record { to = turn.Again (stage.FinishState true); rests = false })

abbrev pub test_exit : LockTest → Option (Exit (Stage LockTest) LockOutcome)
test_exit test.Worn = None
test_exit test.Last = None
test_exit _ = out

abbrev pub lock_exit : Stage LockTest → Option (Exit (Stage LockTest) LockOutcome)
lock_exit (stage.Test x) = test_exit x
lock_exit stage.PrepareLock = out
lock_exit stage.Sleep = out
lock_exit stage.Look = out
lock_exit _ = None

-- from its finish on it does not sleep
abbrev pub lock_awake : Point → Bool
lock_awake (at.Finish x failed) = true
lock_awake (at.Bit biting.Last) = true
lock_awake _ = false

abbrev pub lock_exits : Exits (Framed LockBit) (Stage LockTest) LockOutcome
lock_exits = record {
  asks = λ r. record { wait = record r.wait { asked = true } };
  exit = λ r s. lock_exit s;
  awake = lock_awake;
}

-- the answer: one that failed was left where it was asked, or a signal had ended it
abbrev pub failed_in : Bool → LockBit → Until (Result (Unit {0}) BitEnd)
failed_in true r = until.Left r.seen
failed_in false r = until.Over (lock_end_in r outcome.Interrupted)

abbrev pub until_in : LockBit → LockOutcome → Until (Result (Unit {0}) BitEnd)
until_in r outcome.Over = until.Over (lock_end_in r outcome.Over)
until_in r outcome.Interrupted = failed_in r.asked r
until_in r outcome.Worn = until.Over (lock_end_in r outcome.Worn)

-- its cause: of Left, that its last test-and-set found the bit set
abbrev pub IsUntilCause : Known → ℕ → ℕ → SleepState → Until (Result (Unit {0}) BitEnd) → Type 0
IsUntilCause k w b st (until.Over x) = IsLockCause k w b st x
IsUntilCause k w b st (until.Left seen) = WasLeft k w b seen

abbrev pub takes_until : Until (Result (Unit {0}) BitEnd) → Bool
takes_until (until.Over x) = has_taken_lock x
takes_until (until.Left seen) = false

-- Left for nobody who was not asked
abbrev pub IsAskedFor : Type 0 → Until (Result (Unit {0}) BitEnd) → Type 0
IsAskedFor A (until.Over x) = Unit {0}
IsAskedFor A (until.Left seen) = A

-- The task went on from a stage, was asked there or later to leave, for this cause, and did not sleep from then on; or
-- the wait had ended before. Where its last hold found no place it then stored RUNNING.
pub record LeavesBitLock (A : Type 0) (old new : Known) (r : Run (Framed LockBit)) (s : Stage LockTest)
    (result : Until (Result (Unit {0}) BitEnd)) : Type 0 where
  pub ended : Known
  pub at : Run (Framed LockBit)
  pub outcome : LockOutcome
  pub came : OnTheWay A lock_table lock_exits old r s ended at (turn.Done outcome)
  pub awake : IsAwakeSince ended at (turn.Done outcome) came
  pub answer : result ≡ until_in at.of.wait outcome
  pub cause : IsUntilCause ended r.of.wait.word r.of.wait.bit r.of.wait.state result
  pub rests : HasRested ended new at.of.wait.worn

-- a whole call, which begins unasked
pub record EndsBitLockUntil (A : Type 0) (old new : Known) (w b : ℕ) (st : SleepState)
    (result : Until (Result (Unit {0}) BitEnd)) : Type 0 where
  pub first : Run (Framed LockBit)
  pub fresh : IsFreshLock first.of.wait w b st
  pub unasked : first.of.wait.asked ≡ false
  pub leaves : LeavesBitLock A old new first (stage.Test test.First) result
  pub asked : IsAskedFor A result
