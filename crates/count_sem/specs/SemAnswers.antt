-- To be believed.
-- What a call on a semaphore gives and takes, by its answer.
use Rattle.std.specs.Prelude.{ℕ, ◌≡◌, ◌+◌, ◌≤◌, Bool, Result, Ok, Err}
use Rattle.wait_model.specs.{declared.tasks.SleepState.SleepState, Words.flag}
use Rattle.wait_rule.specs.{Known.Known, LeftEntries.LeftOff, LeftEntries.OrderOf, Says.history_of}
use Rattle.wait_leave.specs.declared.exits.Until.{Until}
use Rattle.wait_leave.specs.declared.exits.Until.TheVariants as until
use Rattle.count_sem.specs.{declared.down_calls.SemEnd.SemEnd, declared.ups.SemFull.SemFull, DownEnds.EndsDown}
use Rattle.count_sem.specs.{DownLeaves.EndsDownUntil, Ups.HasRaised, Ups.HasTakenPermit}
use Rattle.count_sem.specs.SemPermits.{FindsNoEnd, permits_given, permits_taken}

-- the task has given and taken so many permits of semaphore d more
pub record CountsMore (old new : Known) (d given taken : ℕ) : Type 0 where
  pub gave : permits_given d old.view.number (history_of new)
      ≡ permits_given d old.view.number (history_of old) + given
  pub took : permits_taken d old.view.number (history_of new)
      ≡ permits_taken d old.view.number (history_of old) + taken

-- An `up` that answers Ok has given one permit, and else none; it takes none.
abbrev pub up_gives : Result (Unit {0}) SemFull → ℕ
up_gives (Ok u) = 1
up_gives (Err full) = 0

abbrev pub UpsAreCounted : Type 0
UpsAreCounted = (old new : Known) (d : ℕ) (result : Result (Unit {0}) SemFull) → OrderOf new → LeftOff d old
    → HasRaised old new d result → CountsMore old new d (up_gives result) 0

-- A `try_down` that answers true has taken one, and else none; it gives none. No load of the task's found the count at
-- its end, as the law on permits says where all tasks use the cell as a semaphore.
abbrev pub TriesAreCounted : Type 0
TriesAreCounted = (old new : Known) (d : ℕ) (hit : Bool) → OrderOf new → LeftOff d old
    → FindsNoEnd d (history_of new) → HasTakenPermit old new d hit → CountsMore old new d 0 (flag hit)

-- A `down` that answers Ok has taken one permit more than it has given: none, or one that it took of the count and
-- handed on. Else it has taken none, and given none.
abbrev pub DownCounts : Known → Known → ℕ → Result (Unit {0}) SemEnd → Type 0
DownCounts old new d (Ok u) = (p : ℕ) × (p ≤ 1) × CountsMore old new d p (p + 1)
DownCounts old new d (Err end) = CountsMore old new d 0 0

abbrev pub DownsAreCounted : Type 0
DownsAreCounted = (old new : Known) (d : ℕ) (st : SleepState) (result : Result (Unit {0}) SemEnd) → OrderOf new
    → LeftOff d old → FindsNoEnd d (history_of new) → EndsDown old new d st result → DownCounts old new d result

-- One that was left has taken none, and given none; and one that was over counts as a `down` of its answer. A is what
-- its task is to have been asked by.
abbrev pub UntilCounts : Known → Known → ℕ → Until (Result (Unit {0}) SemEnd) → Type 0
UntilCounts old new d (until.Over x) = DownCounts old new d x
UntilCounts old new d (until.Left seen) = CountsMore old new d 0 0

abbrev pub LeftDownsAreCounted : Type 0 → Type 0
LeftDownsAreCounted A = (old new : Known) (d : ℕ) (st : SleepState) (result : Until (Result (Unit {0}) SemEnd))
    → OrderOf new → LeftOff d old → FindsNoEnd d (history_of new) → EndsDownUntil A old new d st result
    → UntilCounts old new d result
