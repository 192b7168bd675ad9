-- For proofs alone.
-- What a stretch of a call leaves under way and tells, and what holds where a wake begins.
use Rattle.std.specs.Prelude.{◌≡◌, Bool, false, None}
use Rattle.wait_model.specs.{declared.watches.Aim.Aim, declared.watches.Watch.Watch}
use Rattle.wait_model.specs.declared.watches.Mode.TheVariants as mode
use Rattle.wait_rule.specs.{Known.Known, LeftEntries.HasLeftNone, Queues.IsIdle, Stays.with_wakes}
use Rattle.wait_rule.specs.Says.{IsUp, OwesBut, told_of}
use Rattle.wq_head.specs.{Walks.IsFull, declared.wakes.WakeRun.WakeRun, declared.wakes.WakeTurn.WakeTurn}
use Rattle.bit_wait.specs.{BitTables.is_bit_worn, BitLeaves.bit_until_in, LockLeaves.until_in, LockTables.is_lock_over}
use Rattle.bit_wait.specs.{declared.waits.BitOutcome.BitOutcome, declared.waits.BitTest.BitTest}
use Rattle.bit_wait.specs.{declared.waits.WaitBit.WaitBit, declared.lock_runs.LockBit.LockBit}
use Rattle.bit_wait.specs.{declared.lock_runs.LockTest.LockTest, declared.lock_runs.LockOutcome.LockOutcome}
use Rattle.page_lock.specs.{PageLeaves.page_until, PageTables.is_page_over, declared.waits.LockPage.LockPage}
use Rattle.page_lock.specs.{declared.waits.PageStage.PageStage, declared.waits.PageOutcome.PageOutcome}
use Rattle.wait_class.specs.{declared.frame_stages.Framed.Framed, declared.frame_stages.Stage.Stage}
use Rattle.wait_class.specs.{declared.stages.Run.Run, declared.stages.Turn.Turn}
use Rattle.wait_class.specs.declared.stages.Turn.TheVariants as turn
use Rattle.completion_cell.specs.{AwaitLeaves.await_until, declared.awaits.AwaitCall.AwaitCall}
use Rattle.completion_cell.specs.{declared.awaits.AwaitOutcome.AwaitOutcome, declared.awaits.AwaitStage.AwaitStage}
use Rattle.completion_cell.specs.{declared.cell_turns.CellRun.CellRun, declared.cell_turns.CellTurn.CellTurn}
use Rattle.wait_event.specs.{WaitLeaves.wait_until_in, declared.waits.WaitCall.WaitCall}
use Rattle.wait_event.specs.{declared.waits.WaitOutcome.WaitOutcome, declared.waits.WaitStage.WaitStage}
use Rattle.completion_cell.specs.declared.cell_turns.CellStage.TheVariants as cell_stage
use Rattle.completion_cell.specs.declared.cell_turns.CellTurn.TheVariants as cell_turn
use Rattle.swait_queue.specs.{declared.swake_turns.SwakeRun.SwakeRun, declared.swake_turns.SwakeTurn.SwakeTurn}
use Rattle.swait_queue.specs.declared.swake_turns.SwakeStage.TheVariants as swake_stage
use Rattle.swait_queue.specs.declared.swake_turns.SwakeTurn.TheVariants as swake_turn
use Rattle.wq_head.specs.declared.wakes.WakeStage.TheVariants as wake_stage
use Rattle.wq_head.specs.declared.wakes.WakeTurn.TheVariants as wake_turn
use Rattle.wq_checked.specs.{Begins.BeginsAs, Kept.but_kept, Kept.keeps_in, declared.calls.Call.Call}
use Rattle.wq_checked.specs.{declared.kept_bits.KeptBits.KeptBits, Locks.refusal_told, declared.calls.Answer.Answer}
use Rattle.wq_checked.specs.{declared.calls.Progress.Progress, declared.calls.Running.Running}
use Rattle.wq_checked.specs.Calls.{await_answer, bit_answer, event_answer, turn_told}
use Rattle.wq_checked.specs.declared.calls.Answer.TheVariants as answer
use Rattle.wq_checked.specs.declared.calls.Progress.TheVariants as progress
use Rattle.wq_checked.specs.declared.calls.Running.TheVariants as running

-- A kind of wait as a call that is under way: how it stands there, what it answers at its end, whether RUNNING is stored
-- then, since no place was left for its entry, and whether it has taken what it waited for.
pub record WaitKind (C S O : Type 0) : Type 0 where
  pub now : Run C → Turn S O → Running
  pub answer : C → O → Answer
  pub worn : C → O → Bool
  pub took : O → Bool

-- what a stretch of such a wait leaves under way and tells, and what of its end
abbrev pub left_by : {C S O : Type 0} → WaitKind C S O → Run C → Turn S O → Running
left_by n r (turn.Done o) = running.Idle
left_by n r u = n.now r u

abbrev pub shown_of_wait : {C S O : Type 0} → WaitKind C S O → Run C → Turn S O → Progress
shown_of_wait n r (turn.Done o) = progress.Done (n.answer r.of o)
shown_of_wait n r u = turn_told (n.now r u) u

abbrev pub worn_by : {C S O : Type 0} → WaitKind C S O → Run C → Turn S O → Bool
worn_by n r (turn.Done o) = n.worn r.of o
worn_by n r u = false

abbrev pub took_by : {C S O : Type 0} → WaitKind C S O → Turn S O → Bool
took_by n (turn.Done o) = n.took o
took_by n u = false

-- the waits for a plain condition or a variable, for a bit, to take a bit, for a page, and for a completion
abbrev pub event_kind : WaitKind WaitCall WaitStage WaitOutcome
event_kind = record {
  now = λ r u. running.Event r u;
  answer = λ c o. event_answer c.watch c.seen (wait_until_in c o);
  worn = λ c o. false;
  took = λ o. false;
}

abbrev pub bit_kind : WaitKind (Framed WaitBit) (Stage BitTest) BitOutcome
bit_kind = record {
  now = λ r u. running.Bit r u;
  answer = λ c o. bit_answer (bit_until_in c.wait o);
  worn = λ c o. is_bit_worn o;
  took = λ o. false;
}

abbrev pub lock_kind : WaitKind (Framed LockBit) (Stage LockTest) LockOutcome
lock_kind = record {
  now = λ r u. running.Lock r u;
  answer = λ c o. bit_answer (until_in c.wait o);
  worn = λ c o. c.wait.worn;
  took = is_lock_over;
}

abbrev pub page_kind : WaitKind LockPage PageStage PageOutcome
page_kind = record {
  now = λ r u. running.Page r u;
  answer = λ c o. bit_answer (page_until c o);
  worn = λ c o. false;
  took = is_page_over;
}

abbrev pub await_kind : WaitKind AwaitCall AwaitStage AwaitOutcome
await_kind = record {
  now = λ r u. running.Await r u;
  answer = λ c o. await_answer (await_until c o);
  worn = λ c o. false;
  took = λ o. false;
}

abbrev pub wake_left : WakeRun → WakeTurn → Running
wake_left r (wake_turn.Locked s) = running.Wake r s
wake_left r wake_turn.Broken = running.Wake r wake_stage.Next
wake_left r (wake_turn.Done w) = running.Idle
wake_left r (wake_turn.Starved n) = running.Starved

abbrev pub wake_shown : WakeRun → WakeTurn → Progress
wake_shown r (wake_turn.Locked s) = refusal_told (running.Wake r s)
wake_shown r wake_turn.Broken = progress.Again
wake_shown r (wake_turn.Done w) = progress.Done (answer.Walked w)
wake_shown r (wake_turn.Starved n) = progress.Starved

abbrev pub swake_left : SwakeRun → SwakeTurn → Running
swake_left r swake_turn.Locked = running.Swake r swake_stage.Turn
swake_left r (swake_turn.Done n) = running.Idle
swake_left r (swake_turn.Starved n) = running.Starved

abbrev pub swake_shown : SwakeRun → SwakeTurn → Progress
swake_shown r swake_turn.Locked = refusal_told (running.Swake r swake_stage.Turn)
swake_shown r (swake_turn.Done n) = progress.Done (answer.Selected n)
swake_shown r (swake_turn.Starved n) = progress.Starved

abbrev pub cell_left : CellRun → CellTurn → Running
cell_left r cell_turn.Locked = running.Cell r cell_stage.Turn
cell_left r (cell_turn.Done hit) = running.Idle
cell_left r (cell_turn.Starved n) = running.Starved

abbrev pub cell_shown : CellRun → CellTurn → Progress
cell_shown r cell_turn.Locked = refusal_told (running.Cell r cell_stage.Turn)
cell_shown r (cell_turn.Done hit) = progress.Done (answer.Cell hit)
cell_shown r (cell_turn.Starved n) = progress.Starved

-- A task that may begin a wake with this aim: it may owe the wakes that this one makes.
pub record Waking (ks : KeptBits) (k : Known) (aim : Aim) : Type 0 where
  pub up : IsUp k
  pub idle : IsIdle k
  pub full : IsFull aim.watch
  pub keeps : (d : Watch) → (told_of k).bits.keeps d ≡ keeps_in ks d
  pub told : (told_of k).hold.head ≡ None
  pub owes : OwesBut (with_wakes aim.watch aim.mode (but_kept ks)) k
  pub off : HasLeftNone k

-- the wake of a variable or a bit, and a call that begins with a wake of this aim
abbrev pub normal_wake : Watch → Aim
normal_wake w = record { watch = w; mode = mode.Normal; count = 1 }

abbrev pub WakesAs : Call → Aim → Type 0
WakesAs c aim = (r : WakeRun) → r.aim ≡ aim → BeginsAs c (running.Wake r wake_stage.First)
