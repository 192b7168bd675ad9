-- To be believed.
-- A wait for a page that its task leaves: its exits, and what it says.
use Rattle.std.specs.Prelude.{ℕ, ◌≡◌, Bool, true, false, Option, Some, None, Result}
use Rattle.wait_model.specs.declared.points.PagePoint.TheVariants as paging
use Rattle.wait_model.specs.{declared.points.Point.Point, declared.tasks.SleepState.SleepState}
use Rattle.wait_model.specs.declared.points.Point.TheVariants as at
use Rattle.wait_rule.specs.Known.{Known}
use Rattle.wait_class.specs.declared.stages.Run.{Run}
use Rattle.wait_class.specs.declared.stages.Turn.TheVariants as turn
use Rattle.wait_leave.specs.{declared.exits.Exit.Exit, declared.exits.Until.Until, Leaves.Exits, OnTheWay.IsAwakeSince}
use Rattle.wait_leave.specs.OnTheWay.{OnTheWay}
use Rattle.wait_leave.specs.declared.exits.Until.TheVariants as until
use Rattle.bit_wait.specs.declared.wait_calls.BitEnd.{BitEnd}
use Rattle.page_lock.specs.{PageTables.IsFreshPageWait, PageTables.page_table, declared.waits.LockPage.LockPage}
use Rattle.page_lock.specs.{declared.waits.PageOutcome.PageOutcome, declared.waits.PageStage.PageStage}
use Rattle.page_lock.specs.PageEnds.{IsPageCause, WasPageLeft, page_end_in, has_taken_page}
use Rattle.page_lock.specs.declared.waits.PageOutcome.TheVariants as outcome
use Rattle.page_lock.specs.declared.waits.PageStage.TheVariants as stage

-- A wait whose entry is queued goes out by its finish, as one that found a signal does: from its state, its looks and its
-- sleep. Who has found the page set and has queued nothing is over at once. It never goes to its last look at the flag:
-- a flag may stand that another wait of the task left. Who has not tried the page, who has drawn a ticket, and who
-- finishes, goes on.
abbrev pub page_exit : PageStage → Option (Exit PageStage PageOutcome)
page_exit stage.Unflag = Some (record { to = turn.Done outcome.Interrupted; rests = false })
page_exit stage.QueueLock = Some (record { to = turn.Done outcome.Interrupted; rests = false })
page_exit stage.State = Some (record { to = turn.Again stage.FinishState; rests = false })
page_exit stage.Flag = Some (record { to = turn.Again stage.FinishState; rests = false })
page_exit stage.Look = Some (record { to = turn.Again stage.FinishState; rests = false })
page_exit stage.Sleep = Some (record { to = turn.Again stage.FinishState; rests = false })
page_exit _ = None

-- from its finish on it does not sleep
abbrev pub page_awake : Point → Bool
page_awake (at.Page (paging.Finish x)) = true
page_awake (at.Page paging.Last) = true
page_awake (at.Page paging.Clear) = true
page_awake _ = false

abbrev pub page_exits : Exits LockPage PageStage PageOutcome
page_exits = record {
  asks = λ r. record r { asked = true };
  exit = λ r s. page_exit s;
  awake = page_awake;
}

-- the answer: one that failed was left where it was asked, or a signal had ended it
abbrev pub page_failed : Bool → LockPage → Until (Result (Unit {0}) BitEnd)
page_failed true r = until.Left r.seen
page_failed false r = until.Over (page_end_in r outcome.Interrupted)

abbrev pub page_until : LockPage → PageOutcome → Until (Result (Unit {0}) BitEnd)
page_until r outcome.Over = until.Over (page_end_in r outcome.Over)
page_until r outcome.Interrupted = page_failed r.asked r
page_until r outcome.Worn = until.Over (page_end_in r outcome.Worn)

-- its cause
abbrev pub IsPageUntil : Known → ℕ → SleepState → Until (Result (Unit {0}) BitEnd) → Type 0
IsPageUntil k p st (until.Over x) = IsPageCause k p st x
IsPageUntil k p st (until.Left seen) = WasPageLeft k p seen

abbrev pub takes_page_until : Until (Result (Unit {0}) BitEnd) → Bool
takes_page_until (until.Over x) = has_taken_page x
takes_page_until (until.Left seen) = false

-- Left for nobody who was not asked
abbrev pub IsLeftFor : Type 0 → Until (Result (Unit {0}) BitEnd) → Type 0
IsLeftFor A (until.Over x) = Unit {0}
IsLeftFor A (until.Left seen) = A

-- The task went on from a stage, was asked there or later to leave, for this cause, and did not sleep from then on; or
-- the wait had ended before.
pub record LeavesPage (A : Type 0) (old new : Known) (r : Run LockPage) (s : PageStage)
    (result : Until (Result (Unit {0}) BitEnd)) : Type 0 where
  pub at : Run LockPage
  pub outcome : PageOutcome
  pub came : OnTheWay A page_table page_exits old r s new at (turn.Done outcome)
  pub awake : IsAwakeSince new at (turn.Done outcome) came
  pub answer : result ≡ page_until at.of outcome
  pub cause : IsPageUntil new r.of.page r.of.state result

-- a whole call, which begins unasked
pub record EndsPageUntil (A : Type 0) (old new : Known) (p : ℕ) (st : SleepState)
    (result : Until (Result (Unit {0}) BitEnd)) : Type 0 where
  pub first : Run LockPage
  pub fresh : IsFreshPageWait first.of p st
  pub leaves : LeavesPage A old new first stage.First result
  pub asked : IsLeftFor A result
