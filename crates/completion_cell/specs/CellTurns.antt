-- To be believed.
-- A call on a completion that is made by stretches: where it stands between two of them, and what each did.
use Rattle.std.specs.Prelude.{ℕ, ◌≡◌, ◌≢◌, ◌<◌, ◌⊎◌, Bool, true, false, Some}
use Rattle.wait_model.specs.declared.layout.TheConstants.{COMPLETIONS, HEADS}
use Rattle.wait_model.specs.declared.steps.Step.TheVariants as step
use Rattle.wait_model.specs.declared.watches.Mode.TheVariants as mode
use Rattle.wait_model.specs.declared.watches.Watch.TheVariants as watch
use Rattle.wait_model.specs.Watches.{head_of}
use Rattle.wait_rule.specs.declared.journal.Item.TheVariants as item
use Rattle.wait_rule.specs.{declared.tries.FailedTries.FailedTries, Counts.FindsCount, HandedPermits.StaysOff}
use Rattle.wait_rule.specs.{LeftEntries.LeftOff, Known.Known, Queues.IsTold, Tried.IsStarved}
use Rattle.wait_rule.specs.Says.{IsFree, IsUp, added}
use Rattle.wait_rule.specs.Stays.{Carries, Change, unchanged}
use Rattle.wait_event.specs.{Conds.set_change, Entries.hold_change}
use Rattle.wq_head.specs.LockTurns.{AwaitsLock, FindsOther, TookLock}
use Rattle.completion_cell.specs.{declared.cell_turns.CellCall.CellCall, declared.cell_turns.CellRun.CellRun}
use Rattle.completion_cell.specs.{declared.cell_turns.CellStage.CellStage, declared.cell_turns.CellTurn.CellTurn}
use Rattle.completion_cell.specs.{Completes.HasCompleted, Completes.HasCompletedAll}
use Rattle.completion_cell.specs.Asks.{HasAsked, HasReset, HasTriedCell}
use Rattle.completion_cell.specs.declared.cell_turns.CellCall.TheVariants as call
use Rattle.completion_cell.specs.declared.cell_turns.CellStage.TheVariants as stage
use Rattle.completion_cell.specs.declared.cell_turns.CellTurn.TheVariants as turn

-- this call, on this completion
pub record IsFreshCell (r : CellRun) (c : CellCall) (d : ℕ) : Type 0 where
  pub call_is : r.call ≡ c
  pub cell : r.cell ≡ d

abbrev pub cell_head : ℕ → ℕ
cell_head d = head_of (watch.Done d)

-- the calls that load the count before they lock, and are over where it is 0
abbrev pub peeks_first : CellCall → Bool
peeks_first call.Complete = false
peeks_first call.CompleteAll = false
peeks_first call.IsDone = true
peeks_first call.Reinit = false
peeks_first call.TryWait = true

-- what such a call did first, and that it goes on
pub record HasPeeked (d : ℕ) (start base : Known) : Type 0 where
  pub count : ℕ
  pub some : count ≢ 0
  pub is : base ≡ added start (item.Made (step.Load (watch.Done d) count))
  pub finds : FindsCount start d count
  pub carries : Carries unchanged start base

-- what a call did before it drew its ticket
abbrev pub HasBegunCell : Bool → ℕ → Known → Known → Type 0
HasBegunCell true d start base = HasPeeked d start base
HasBegunCell false d start base = start ≡ base

pub record HasDrawnForCell (start now : Known) (r : CellRun) : Type 0 where
  pub told : IsTold start
  pub base : Known
  pub begun : HasBegunCell (peeks_first r.call) r.cell start base
  pub awaits : AwaitsLock base now (cell_head r.cell) r.ticket

-- whether the ticket of its lock is drawn
abbrev pub StandsAtCell : Known → Known → CellRun → CellStage → Type 0
StandsAtCell start now r stage.First = now ≡ start
StandsAtCell start now r stage.Turn = HasDrawnForCell start now r

-- The call began at `start` with a task that was up, held no lock, and had left its own entry off at the completion.
pub record IsAtCell (start now : Known) (r : CellRun) (s : CellStage) : Type 0 where
  pub up : IsUp start
  pub free : IsFree start
  pub there : r.cell < COMPLETIONS
  pub left : LeftOff r.cell start
  pub stands : StandsAtCell start now r s

-- the task has taken the lock of the call's hold
pub record HoldsForCell (c : CellCall) (d : ℕ) (start now : Known) : Type 0 where
  pub up : IsUp start
  pub free : IsFree start
  pub left : LeftOff d start
  pub told : IsTold start
  pub base : Known
  pub begun : HasBegunCell (peeks_first c) d start base
  pub took : TookLock base now (cell_head d)

-- what a call made, with its answer
abbrev pub EndsCellCall : CellCall → ℕ → Bool → Known → Known → Type 0
EndsCellCall call.Complete d hit start new = HasCompleted start new d
EndsCellCall call.CompleteAll d hit start new = HasCompletedAll start new d
EndsCellCall call.IsDone d hit start new = HasAsked start new d hit
EndsCellCall call.Reinit d hit start new = HasReset start new d
EndsCellCall call.TryWait d hit start new = HasTriedCell start new d hit

-- and what it changes of the task
abbrev pub change_of : CellCall → ℕ → ℕ → Change
change_of call.Complete d h = set_change (watch.Done d) mode.Normal h
change_of call.CompleteAll d h = set_change (watch.Done d) mode.Normal h
change_of call.IsDone d h = hold_change h
change_of call.Reinit d h = hold_change h
change_of call.TryWait d h = hold_change h

-- What a call did that is over: all that the whole calls say.
pub record IsCellOver (c : CellCall) (d : ℕ) (hit : Bool) (start new : Known) : Type 0 where
  pub ends : EndsCellCall c d hit start new
  pub up : IsUp new
  pub free : IsFree new
  pub carries : Carries (change_of c d new.at) start new
  pub off : StaysOff start new

-- It stopped in its hold: so many tries of one wake failed as no run makes.
pub record HasCellStarved (d : ℕ) (new : Known) (failed : FailedTries) : Type 0 where
  pub tries : IsStarved failed
  pub held : new.book.head ≡ Some (cell_head d)

-- what a stretch did
abbrev pub CellTurnsTo : Known → Known → CellRun → CellTurn → Type 0
CellTurnsTo start new r turn.Locked = IsAtCell start new r stage.Turn
CellTurnsTo start new r (turn.Done hit) = IsCellOver r.call r.cell hit start new
CellTurnsTo start new r (turn.Starved failed) = HasCellStarved r.cell new failed

-- the last that the task did is a load of the completion's count, which was 0
abbrev pub EndsByLoad : Known → ℕ → Type 0
EndsByLoad new d = (base : Known) × (new ≡ added base (item.Made (step.Load (watch.Done d) 0)))

-- where another ticket was served, the last item is the look that found its number
abbrev pub FoundServed : Known → CellRun → CellTurn → Type 0
FoundServed new r turn.Locked = (base : Known) × FindsOther base new (cell_head r.cell) r.ticket r.served
FoundServed new r _ = Unit {0}

-- The head whose lock a stretch has passed on, for the caller to wake who parks for it: that of the completion where
-- the stretch ended its hold, and else none. Where a call was over without a hold, the load of its count was the last
-- that it did.
abbrev pub PassedByCell : Known → CellRun → CellTurn → ℕ → Type 0
PassedByCell new r turn.Locked h = h ≡ HEADS
PassedByCell new r (turn.Done hit) h = (h ≡ cell_head r.cell) ⊎ ((h ≡ HEADS) × EndsByLoad new r.cell)
PassedByCell new r (turn.Starved failed) h = h ≡ HEADS

-- it is the same call
pub record HasCellTurned (start new : Known) (r s : CellRun) (t : CellTurn) : Type 0 where
  pub fresh : IsFreshCell s r.call r.cell
  pub turns : CellTurnsTo start new s t

-- where a stretch leaves the call, whenever that began; after its end the task is up and holds no lock
abbrev pub CellRests : Known → CellRun → CellTurn → Type 0
CellRests now r turn.Locked = (start : Known) × IsAtCell start now r stage.Turn
CellRests now r (turn.Done hit) = IsUp now × IsFree now
CellRests now r (turn.Starved failed) = HasCellStarved r.cell now failed
