-- To be believed.
-- A wait until a bit is clear that its task leaves: its exits, and what it says.
use Rattle.std.specs.Prelude.{ℕ, ◌≡◌, Bool, true, false, if◌then◌else◌, Option, Some, None, Result, Ok, Err}
use Rattle.wait_model.specs.declared.points.BitPoint.TheVariants as biting
use Rattle.wait_model.specs.{declared.points.Point.Point, declared.tasks.SleepState.SleepState, Words.bit_at}
use Rattle.wait_model.specs.declared.points.Point.TheVariants as at
use Rattle.wait_rule.specs.Known.{Known}
use Rattle.wait_class.specs.{declared.frame_stages.Framed.Framed, declared.frame_stages.Stage.Stage}
use Rattle.wait_class.specs.{declared.stages.Run.Run, Wholes.HasRested}
use Rattle.wait_class.specs.declared.frame_stages.Stage.TheVariants as stage
use Rattle.wait_class.specs.declared.stages.Turn.TheVariants as turn
use Rattle.wait_leave.specs.{declared.exits.Exit.Exit, declared.exits.Until.Until, Leaves.Exits, OnTheWay.IsAwakeSince}
use Rattle.wait_leave.specs.OnTheWay.{OnTheWay}
use Rattle.wait_leave.specs.declared.exits.Until.TheVariants as until
use Rattle.bit_wait.specs.{LockLeaves.IsAskedFor, declared.wait_calls.BitEnd.BitEnd}
use Rattle.bit_wait.specs.{declared.waits.BitOutcome.BitOutcome, declared.waits.BitTest.BitTest}
use Rattle.bit_wait.specs.declared.waits.WaitBit.{WaitBit}
use Rattle.bit_wait.specs.BitEnds.{HasLoadedBit, IsBitCause, bit_end_in}
use Rattle.bit_wait.specs.BitTables.{IsFreshBitWait, bit_table, is_bit_worn}
use Rattle.bit_wait.specs.declared.waits.BitOutcome.TheVariants as outcome
use Rattle.bit_wait.specs.declared.waits.BitTest.TheVariants as test

-- It goes out by the load that comes behind a signal, and from there by its finish, whatever the load finds: from its
-- tests, its sleep and its look, and from where it would draw a ticket to prepare. One that has drawn one prepares first.
-- One that found a signal or no place, or that finishes, goes on to its end.
abbrev pub bit_out : Option (Exit (Stage BitTest) BitOutcome)
bit_out = Some (record { to = turn.Again (stage.Test (test.Again true)); rests = false })

abbrev pub bit_test_exit : BitTest → Option (Exit (Stage BitTest) BitOutcome)
bit_test_exit test.First = bit_out
bit_test_exit test.Load = bit_out
bit_test_exit (test.Again failed) = if failed then None else bit_out
bit_test_exit test.Worn = None

abbrev pub bit_exit : Stage BitTest → Option (Exit (Stage BitTest) BitOutcome)
bit_exit (stage.Test x) = bit_test_exit x
bit_exit stage.PrepareLock = bit_out
bit_exit stage.Sleep = bit_out
bit_exit stage.Look = bit_out
bit_exit _ = None

-- from that load on it does not sleep
abbrev pub bit_awake : Point → Bool
bit_awake (at.Bit (biting.Again failed)) = failed
bit_awake (at.Finish x failed) = true
bit_awake _ = false

abbrev pub bit_exits : Exits (Framed WaitBit) (Stage BitTest) BitOutcome
bit_exits = record {
  asks = λ r. record { wait = record r.wait { asked = true } };
  exit = λ r s. bit_exit s;
  awake = bit_awake;
}

-- the answer: one that failed was left where it was asked, if its load found the bit set, or a signal had ended it
abbrev pub bit_failed_in : Bool → WaitBit → Until (Result (Unit {0}) BitEnd)
bit_failed_in true r = if bit_at r.last r.bit then until.Left r.last else until.Over (Ok tt)
bit_failed_in false r = until.Over (bit_end_in r outcome.Interrupted)

abbrev pub bit_until_in : WaitBit → BitOutcome → Until (Result (Unit {0}) BitEnd)
bit_until_in r outcome.Over = until.Over (bit_end_in r outcome.Over)
bit_until_in r outcome.Interrupted = bit_failed_in r.asked r
bit_until_in r outcome.Worn = until.Over (bit_end_in r outcome.Worn)

-- what the load of a wait that was asked to leave found, of the bit set or clear
abbrev pub HasFound : Known → ℕ → ℕ → ℕ → Bool → Type 0
HasFound k w b seen set = HasLoadedBit k w b seen × (bit_at seen b ≡ set)

-- its cause: of Left, that its load found the bit set, and of Ok, that it found it clear, where its program does not
-- answer so itself
abbrev pub FoundClear : Known → ℕ → ℕ → BitOutcome → Type 0
FoundClear k w b outcome.Interrupted = (seen : ℕ) × HasFound k w b seen false
FoundClear k w b _ = Unit {0}

abbrev pub IsBitUntilCause : Known → ℕ → ℕ → SleepState → BitOutcome → Until (Result (Unit {0}) BitEnd) → Type 0
IsBitUntilCause k w b st o (until.Over (Ok u)) = FoundClear k w b o
IsBitUntilCause k w b st o (until.Over (Err e)) = IsBitCause k w b st (Err e)
IsBitUntilCause k w b st o (until.Left seen) = HasFound k w b seen true

-- The task went on from a stage, was asked there or later to leave, for this cause, and did not sleep from then on; or
-- the wait had ended before. Where it found no place it then stored RUNNING.
pub record LeavesBitWait (A : Type 0) (old new : Known) (r : Run (Framed WaitBit)) (s : Stage BitTest)
    (result : Until (Result (Unit {0}) BitEnd)) : Type 0 where
  pub ended : Known
  pub at : Run (Framed WaitBit)
  pub outcome : BitOutcome
  pub came : OnTheWay A bit_table bit_exits old r s ended at (turn.Done outcome)
  pub awake : IsAwakeSince ended at (turn.Done outcome) came
  pub answer : result ≡ bit_until_in at.of.wait outcome
  pub cause : IsBitUntilCause ended r.of.wait.word r.of.wait.bit r.of.wait.state outcome result
  pub rests : HasRested ended new (is_bit_worn outcome)

-- a whole call, which begins unasked
pub record EndsBitWaitUntil (A : Type 0) (old new : Known) (w b : ℕ) (st : SleepState)
    (result : Until (Result (Unit {0}) BitEnd)) : Type 0 where
  pub first : Run (Framed WaitBit)
  pub fresh : IsFreshBitWait first.of.wait w b st
  pub leaves : LeavesBitWait A old new first (stage.Test test.First) result
  pub asked : IsAskedFor A result
