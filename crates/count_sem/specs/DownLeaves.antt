-- To be believed.
-- A `down` that its task leaves: its exits, and what it says.
use Rattle.std.specs.Prelude.{ℕ, ◌≡◌, Bool, true, false, Option, Some, None, Result}
use Rattle.wait_model.specs.{declared.points.Point.Point, declared.tasks.SleepState.SleepState}
use Rattle.wait_model.specs.declared.points.Point.TheVariants as at
use Rattle.wait_rule.specs.Known.{Known}
use Rattle.wait_class.specs.{declared.stages.Run.Run, Posts.EndsWith, Posts.own_of}
use Rattle.wait_class.specs.declared.stages.Turn.TheVariants as turn
use Rattle.wait_leave.specs.{declared.exits.Exit.Exit, declared.exits.Until.Until, Leaves.Exits, OnTheWay.OnTheWay}
use Rattle.wait_leave.specs.declared.exits.Until.TheVariants as until
use Rattle.count_sem.specs.{DownEnds.IsDownCause, DownEnds.down_end_in, Passes.HasPassedOn}
use Rattle.count_sem.specs.{declared.down_calls.SemEnd.SemEnd, declared.downs.DownCall.DownCall}
use Rattle.count_sem.specs.{declared.downs.DownOutcome.DownOutcome, declared.downs.DownStage.DownStage}
use Rattle.count_sem.specs.Downs.{IsFreshDown, StoodThere, down_table, found_zero, left_queue, looked_by}
use Rattle.count_sem.specs.declared.downs.DownOutcome.TheVariants as outcome
use Rattle.count_sem.specs.declared.downs.DownStage.TheVariants as stage

-- It goes out in its hold alone, where that has loaded 0 and has found its entry queued, if it was before: so who was
-- given a permit takes it. Before its sleep it stores RUNNING, and goes on to the next hold. One that has not begun,
-- that has drawn a ticket, that takes a permit or stops for a signal, goes on.
abbrev pub down_exit : DownStage → Option (Exit DownStage DownOutcome)
down_exit stage.Look = Some (record { to = turn.Again stage.LeaveQueue; rests = false })
down_exit stage.Queue = Some (record { to = turn.Again stage.LeaveQueue; rests = false })
down_exit stage.Sleep = Some (record { to = turn.Again stage.Again; rests = true })
down_exit _ = None

-- from where it goes out of its hold on it does not sleep
abbrev pub out_awake : Point → Bool
out_awake (at.Finish p failed) = true
out_awake _ = false

abbrev pub down_exits : Exits DownCall DownStage DownOutcome
down_exits = record {
  asks = λ r. record r { asked = true };
  exit = λ r s. down_exit s;
  awake = out_awake;
}

-- the answer: one that went out of a hold which had loaded 0 was left where it was asked, or a signal ended it
abbrev pub stopped_until : Bool → DownCall → Until (Result (Unit {0}) SemEnd)
stopped_until true r = until.Left 0
stopped_until false r = until.Over (down_end_in r outcome.Interrupted)

abbrev pub end_until : DownCall → DownOutcome → Until (Result (Unit {0}) SemEnd)
end_until r outcome.Over = until.Over (down_end_in r outcome.Over)
end_until r outcome.Passing = until.Over (down_end_in r outcome.Passing)
end_until r outcome.Interrupted = stopped_until r.asked r
end_until r outcome.Worn = until.Over (down_end_in r outcome.Worn)

-- Its cause. Left: its last hold loaded the count as 0, which is `seen`; where the call had queued its entry before,
-- the hold had found it queued before that load; and the entry was taken off where it was queued. So who was given a
-- permit is never left without it.
pub record LeftDown (k : Known) (d seen : ℕ) (queued : Bool) : Type 0 where
  pub again : Bool
  pub word : ℕ
  pub stood : StoodThere again queued word
  pub look : Option ℕ
  pub entry : ℕ
  pub ends : EndsWith k (found_zero again d (own_of k) word (looked_by look (left_queue (own_of k) d entry)))
  pub unset : seen ≡ 0

abbrev pub IsDownUntil : Known → ℕ → SleepState → Bool → Until (Result (Unit {0}) SemEnd) → Type 0
IsDownUntil k d st queued (until.Over x) = IsDownCause k d st queued x
IsDownUntil k d st queued (until.Left seen) = LeftDown k d seen queued

-- Left for nobody who was not asked
abbrev pub IsDownLeftFor : Type 0 → Until (Result (Unit {0}) SemEnd) → Type 0
IsDownLeftFor A (until.Over x) = Unit {0}
IsDownLeftFor A (until.Left seen) = A

-- one that was given a permit, and found more, hands on
abbrev pub ClosesDown : Known → Known → DownCall → DownOutcome → Type 0
ClosesDown ended new r outcome.Passing = HasPassedOn ended new r
ClosesDown ended new r _ = new ≡ ended

-- The task went on from a stage, was asked there or later to leave, for this cause; or the call had ended before.
pub record LeavesDown (A : Type 0) (old new : Known) (r : Run DownCall) (s : DownStage)
    (result : Until (Result (Unit {0}) SemEnd)) : Type 0 where
  pub at : Run DownCall
  pub outcome : DownOutcome
  pub ended : Known
  pub came : OnTheWay A down_table down_exits old r s ended at (turn.Done outcome)
  pub closes : ClosesDown ended new at.of outcome
  pub answer : result ≡ end_until at.of outcome
  pub cause : IsDownUntil new r.of.cell r.of.state at.of.queued result

-- a whole call, which begins unasked
pub record EndsDownUntil (A : Type 0) (old new : Known) (d : ℕ) (st : SleepState)
    (result : Until (Result (Unit {0}) SemEnd)) : Type 0 where
  pub first : Run DownCall
  pub fresh : IsFreshDown first.of d st
  pub leaves : LeavesDown A old new first stage.First result
  pub asked : IsDownLeftFor A result
