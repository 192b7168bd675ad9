-- To be believed.
-- A wait for a completion that its task leaves: its exits, and what it says.
use Rattle.std.specs.Prelude.{ℕ, ◌≡◌, Bool, true, false, Option, Some, None, Result, Ok, Err}
use Rattle.wait_model.specs.declared.points.AwaitPoint.TheVariants as awaiting
use Rattle.wait_model.specs.{declared.points.Point.Point, declared.tasks.SleepState.SleepState}
use Rattle.wait_model.specs.declared.points.Point.TheVariants as at
use Rattle.wait_rule.specs.Known.{Known}
use Rattle.wait_class.specs.declared.stages.Run.{Run}
use Rattle.wait_class.specs.declared.stages.Turn.TheVariants as turn
use Rattle.wait_event.specs.declared.wait_events.WaitEnd.{WaitEnd}
use Rattle.wait_event.specs.declared.wait_events.WaitEnd.TheVariants as wait_end
use Rattle.wait_leave.specs.{declared.exits.Exit.Exit, declared.exits.Until.Until, Leaves.Exits, OnTheWay.OnTheWay}
use Rattle.wait_leave.specs.declared.exits.Until.TheVariants as until
use Rattle.completion_cell.specs.{declared.awaits.AwaitCall.AwaitCall, declared.awaits.AwaitOutcome.AwaitOutcome}
use Rattle.completion_cell.specs.declared.awaits.AwaitStage.{AwaitStage}
use Rattle.completion_cell.specs.AwaitEnds.{IsSignalled, IsWorn, await_end_in}
use Rattle.completion_cell.specs.Awaits.{IsFreshAwait, WasAwaitLeft, await_table}
use Rattle.completion_cell.specs.declared.awaits.AwaitOutcome.TheVariants as outcome
use Rattle.completion_cell.specs.declared.awaits.AwaitStage.TheVariants as stage

-- It goes out in its hold alone, where that has loaded 0: so who was handed a permit takes it. Before its sleep it stores
-- RUNNING, and goes on to the next hold. One that has not begun, that has drawn a ticket, or that takes one of the count
-- or stops for a signal, goes on.
abbrev pub await_exit : AwaitStage → Option (Exit AwaitStage AwaitOutcome)
await_exit stage.Look = Some (record { to = turn.Again stage.LeaveState; rests = false })
await_exit stage.Queue = Some (record { to = turn.Again stage.LeaveState; rests = false })
await_exit stage.Sleep = Some (record { to = turn.Again stage.Again; rests = true })
await_exit _ = None

-- from where it goes out of its hold on it does not sleep
abbrev pub leave_awake : Point → Bool
leave_awake (at.Await (awaiting.Run stopped)) = true
leave_awake (at.Await (awaiting.Off stopped)) = true
leave_awake (at.Await (awaiting.Last stopped)) = true
leave_awake (at.Await awaiting.Unlock) = true
leave_awake _ = false

abbrev pub await_exits : Exits AwaitCall AwaitStage AwaitOutcome
await_exits = record {
  asks = λ r. record r { asked = true };
  exit = λ r s. await_exit s;
  awake = leave_awake;
}

-- the answer: one whose hold had loaded 0 was left where it was asked, or a signal had ended it
abbrev pub await_stopped : Bool → AwaitCall → Bool → Until (Result (Unit {0}) WaitEnd)
await_stopped true r found = until.Left 0
await_stopped false r found = until.Over (await_end_in r (outcome.Signalled found))

abbrev pub await_until : AwaitCall → AwaitOutcome → Until (Result (Unit {0}) WaitEnd)
await_until r outcome.Over = until.Over (await_end_in r outcome.Over)
await_until r (outcome.Signalled found) = await_stopped r.asked r found
await_until r outcome.Worn = until.Over (await_end_in r outcome.Worn)

-- Its cause. Left: its last hold had loaded the count as 0, which is `seen`, and took the own entry off or found it off.
-- Signal: a look showed a signal that the state admits, and `selected` is that the hold found the entry off that the
-- call had queued, as its run tells.
pub record LeftAwait (k : Known) (d seen : ℕ) : Type 0 where
  pub found : Bool
  pub was : WasAwaitLeft k d found
  pub unset : seen ≡ 0

abbrev pub IsAwaitUntil : Known → ℕ → SleepState → Bool → Until (Result (Unit {0}) WaitEnd) → Type 0
IsAwaitUntil k d st queued (until.Over (Ok u)) = Unit {0}
IsAwaitUntil k d st queued (until.Over (Err (wait_end.Signal seen selected))) = IsSignalled k d st seen selected queued
IsAwaitUntil k d st queued (until.Over (Err (wait_end.Worn h place))) = IsWorn k d h place
IsAwaitUntil k d st queued (until.Left seen) = LeftAwait k d seen

-- Left for nobody who was not asked
abbrev pub IsAwaitLeftFor : Type 0 → Until (Result (Unit {0}) WaitEnd) → Type 0
IsAwaitLeftFor A (until.Over x) = Unit {0}
IsAwaitLeftFor A (until.Left seen) = A

-- The task went on from a stage, was asked there or later to leave, for this cause; or the wait had ended before.
pub record LeavesAwait (A : Type 0) (old new : Known) (r : Run AwaitCall) (s : AwaitStage)
    (result : Until (Result (Unit {0}) WaitEnd)) : Type 0 where
  pub at : Run AwaitCall
  pub outcome : AwaitOutcome
  pub came : OnTheWay A await_table await_exits old r s new at (turn.Done outcome)
  pub answer : result ≡ await_until at.of outcome
  pub cause : IsAwaitUntil new r.of.cell r.of.state at.of.queued result

-- a whole call, which begins unasked
pub record EndsAwaitUntil (A : Type 0) (old new : Known) (d : ℕ) (st : SleepState)
    (result : Until (Result (Unit {0}) WaitEnd)) : Type 0 where
  pub first : Run AwaitCall
  pub fresh : IsFreshAwait first.of d st
  pub leaves : LeavesAwait A old new first stage.First result
  pub asked : IsAwaitLeftFor A result
