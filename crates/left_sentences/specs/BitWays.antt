-- To be believed.
-- Waits for bits that are left: the ways out.
use Rattle.std.specs.Prelude.{ℕ, ◌≡◌, true, false, Result, if◌then◌else◌, List}
use Rattle.wait_model.specs.{declared.calls.Answer.Answer, declared.calls.Event.Event}
use Rattle.wait_model.specs.{declared.tasks.SleepState.SleepState, declared.watches.Watch.Watch, SentenceBits.tries}
use Rattle.wait_model.specs.SentenceSteps.{finishes, loads, minus_4, number}
use Rattle.wait_model.specs.declared.calls.Call.TheVariants as calls
use Rattle.wait_model.specs.declared.watches.Watch.TheVariants as watch
use Rattle.wait_model.specs.Phrases.{Phrase, ◌>>=◌, ◌>>◌, gives}
use Rattle.wait_rule.specs.{Known.Known, Says.MeetsLaw}
use Rattle.wait_class.specs.declared.frame_stages.Stage.TheVariants as stage
use Rattle.wait_class.specs.declared.stages.Turn.TheVariants as turn
use Rattle.wait_class.specs.Posts.{IsOut}
use Rattle.wait_leave.specs.declared.exits.Until.{Until}
use Rattle.wait_leave.specs.declared.exits.Until.TheVariants as until
use Rattle.bit_wait.specs.{BitLeaves.EndsBitWaitUntil, BitLeaves.bit_exits, BitTables.bit_table}
use Rattle.bit_wait.specs.{LockLeaves.EndsBitLockUntil, LockLeaves.lock_exits, LockTables.lock_table}
use Rattle.bit_wait.specs.declared.wait_calls.BitEnd.{BitEnd}
use Rattle.bit_wait.specs.declared.lock_runs.LockTest.TheVariants as lock_test
use Rattle.bit_wait.specs.declared.waits.BitTest.TheVariants as test
use Rattle.left_sentences.specs.LeftWords.{IsLeftWord, WaysOut, holds_lock}
use Rattle.left_sentences.specs.WaySays.{way_says}

-- Where no lock is held, one until a bit is clear goes out as one whose action failed: it loads the bit once more, and
-- finishes whatever it found.
abbrev pub loads_and_finishes : ℕ → Watch → Phrase Answer
loads_and_finishes me c = do
  value ← loads c
  finishes me c true
  gives minus_4

-- One that is to take the bit finishes, and tries it once more.
abbrev pub finishes_and_tries : ℕ → ℕ → ℕ → Phrase Answer
finishes_and_tries me w b = do
  finishes me (watch.Bit w b) true
  clear ← tries w b
  gives (if clear then number 0 else minus_4)

abbrev pub out_of_holds : Phrase Answer → WaysOut (Unit {0})
out_of_holds m = record { phrase = λ x. m; From = λ x trail. holds_lock trail ≡ false }

-- what such waits made
abbrev pub bit_says : {A : Type 0} (old new : Known) (w b : ℕ) (st : SleepState)
    (result : Until (Result (Unit {0}) BitEnd)) → EndsBitWaitUntil A old new w b st result → List Event
bit_says old new w b st result e = way_says bit_table bit_exits old e.first (stage.Test test.First) e.leaves.ended
    e.leaves.at (turn.Done e.leaves.outcome) e.leaves.came

abbrev pub lock_says : {A : Type 0} (old new : Known) (w b : ℕ) (st : SleepState)
    (result : Until (Result (Unit {0}) BitEnd)) → EndsBitLockUntil A old new w b st result → List Event
lock_says old new w b st result e = way_says lock_table lock_exits old e.first (stage.Test lock_test.First)
    e.leaves.ended e.leaves.at (turn.Done e.leaves.outcome) e.leaves.came

-- A wait for a bit that was left, for this cause, made such a word; a load of the base word after it (`Task::witness`)
-- shows the table that is asked for.
abbrev pub LeftBitWaitsFollow : Type 0 → Type 0
LeftBitWaitsFollow A = (old new : Known) (w b : ℕ) (st : SleepState) (seen : ℕ) → MeetsLaw new.view → IsOut old
    → (e : EndsBitWaitUntil A old new w b st (until.Left seen))
    → IsLeftWord old.view.number (calls.WaitBit w b st) (out_of_holds (loads_and_finishes old.view.number (watch.Bit w
    b)))
    (bit_says old new w b st (until.Left seen) e) minus_4

abbrev pub LeftBitLocksFollow : Type 0 → Type 0
LeftBitLocksFollow A = (old new : Known) (w b : ℕ) (st : SleepState) (seen : ℕ) → MeetsLaw new.view → IsOut old
    → (e : EndsBitLockUntil A old new w b st (until.Left seen))
    → IsLeftWord old.view.number (calls.LockBit w b st) (out_of_holds (finishes_and_tries old.view.number w b))
    (lock_says old new w b st (until.Left seen) e) minus_4
