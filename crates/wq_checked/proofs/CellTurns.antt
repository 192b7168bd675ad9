-- A stretch of a call about a completion: it has come on from where it began, or it is over, and its task ready.
use Rattle.std.proofs.Common.{◌∙◌, refl, subst, sym}
use Rattle.std.specs.Prelude.{ℕ, ◌≡◌, Bool, true, false}
use Rattle.wait_model.specs.declared.watches.Mode.TheVariants as mode
use Rattle.wait_model.specs.{declared.watches.Watch.Watch, Watches.same}
use Rattle.wait_model.specs.declared.watches.Watch.TheVariants as watch
use Rattle.wait_rule.specs.{HandedPermits.StaysOff, Known.Known, Stays.Carries}
use Rattle.wait_rule.specs.Says.{IsFree, IsUp, told_of}
use Rattle.wait_event.specs.{Conds.set_change, Entries.hold_change}
use Rattle.completion_cell.specs.{declared.cell_turns.CellCall.CellCall, declared.cell_turns.CellRun.CellRun}
use Rattle.completion_cell.specs.{declared.cell_turns.CellStage.CellStage, declared.cell_turns.CellTurn.CellTurn}
use Rattle.completion_cell.specs.CellTurns.{HasCellTurned, IsAtCell, IsCellOver}
use Rattle.completion_cell.specs.declared.cell_turns.CellCall.TheVariants as call
use Rattle.completion_cell.specs.declared.cell_turns.CellStage.TheVariants as stage
use Rattle.completion_cell.specs.declared.cell_turns.CellTurn.TheVariants as turn
use Rattle.wq_checked.specs.{Advancing.cell_left, Advancing.cell_shown, declared.calls.Running.Running}
use Rattle.wq_checked.specs.declared.kept_bits.KeptBits.{KeptBits}
use Rattle.wq_checked.specs.Kept.{IsReadyWith, but_kept, keeps_in}
use Rattle.wq_checked.specs.Calls.{CameFrom, CellCame, IsRunningSound, WentOn}
use Rattle.wq_checked.specs.declared.calls.Running.TheVariants as running
use Rattle.wq_checked.proofs.{Publishing.bits_hold, Publishing.no_bit, WakeTurns.owes_wider}
use Rattle.wq_checked.proofs.HoldTurns.{HoldComes, IsLawfulHold, lawful_hold}

-- what is over leaves a ready task: one that sets the completion, and one that does not
module _ (ks : KeptBits) (start new : Known) (d : ℕ) (r : IsReadyWith ks start) (up : IsUp new) (free : IsFree new)
    (off : StaysOff start new) where
  set_ready : Carries (set_change (watch.Done d) mode.Normal new.at) start new → IsReadyWith ks new
  set_ready c = record {
    up = up;
    idle = record { running = c.state ∙ r.idle.running; free = free; unmarked = c.mark ∙ r.idle.unmarked };
    told = c.hold ∙ r.told;
    keeps = λ e. by e (same e (watch.Done d)) refl;
    owes = c.owes (but_kept ks) r.owes;
    off = λ e. off e (r.off e);
  }
    where
      by : (e : Watch) (t : Bool) → same e (watch.Done d) ≡ t → (told_of new).bits.keeps e ≡ keeps_in ks e
      by e true at =
          let none = no_bit ks (watch.Done d) e refl at in
          bits_hold ks new (watch.Done d) e
          (owes_wider (watch.Done d) mode.Normal (but_kept ks) new (c.owes (but_kept ks) r.owes)) none ∙ sym none
      by e false at = c.keeps e at ∙ r.keeps e

  held_ready : Carries (hold_change new.at) start new → IsReadyWith ks new
  held_ready c = record {
    up = up;
    idle = record { running = c.state ∙ r.idle.running; free = free; unmarked = c.mark ∙ r.idle.unmarked };
    told = c.hold ∙ r.told;
    keeps = λ e. c.keeps e refl ∙ r.keeps e;
    owes = c.owes (but_kept ks) r.owes;
    off = λ e. off e (r.off e);
  }

over_ready : (ks : KeptBits) (start new : Known) (c : CellCall) (d : ℕ) (hit : Bool) → IsReadyWith ks start
    → IsCellOver c d hit start new → IsReadyWith ks new
over_ready ks start new call.Complete d hit r o = set_ready ks start new d r o.up o.free o.off o.carries
over_ready ks start new call.CompleteAll d hit r o = set_ready ks start new d r o.up o.free o.off o.carries
over_ready ks start new call.IsDone d hit r o = held_ready ks start new d r o.up o.free o.off o.carries
over_ready ks start new call.Reinit d hit r o = held_ready ks start new d r o.up o.free o.off o.carries
over_ready ks start new call.TryWait d hit r o = held_ready ks start new d r o.up o.free o.off o.carries

-- a stretch from where it has come to
module _ (start old new : Known) (f run q : CellRun) (s : CellStage) (came : CellCame start old f run s) where
  over_as : (hit : Bool) → HasCellTurned start new run q (turn.Done hit) → IsCellOver f.call f.cell hit start new
  over_as hit h = by (h.fresh.call_is ∙ came.call) (h.fresh.cell ∙ came.cell)
    where
      by : q.call ≡ f.call → q.cell ≡ f.cell → IsCellOver f.call f.cell hit start new
      by c d = subst (λ (e : CellCall). IsCellOver e f.cell hit start new) c
          (subst (λ (n : ℕ). IsCellOver q.call n hit start new) d h.turns)

  come_on : HasCellTurned start new run q turn.Locked → CellCame start new f q stage.Turn
  come_on h = record { at = h.turns; call = h.fresh.call_is ∙ came.call; cell = h.fresh.cell ∙ came.cell }

  tells : (may : Bool) (from : CellStage) (t : CellTurn) → HasCellTurned start new run q t
      → WentOn may start (running.Cell f from) new (cell_left q t) (cell_shown q t)
  tells may from turn.Locked h = (come_on h, refl)
  tells may from (turn.Done hit) h = (refl, over_as hit h)
  tells may from (turn.Starved n) h = refl

  left_sound : (ks : KeptBits) → IsReadyWith ks start → (from : CellStage) (t : CellTurn) → HasCellTurned start new run q t
      → IsRunningSound (cell_left q t) ks new
  left_sound ks r from turn.Locked h = record {
    start = start;
    first = running.Cell f from;
    began = r;
    came = come_on h;
    stands = tt;
  }
  left_sound ks r from (turn.Done hit) h = over_ready ks start new f.call f.cell hit r (over_as hit h)
  left_sound ks r from (turn.Starved n) h = tt

cell_comes : (may : Bool) (start : Known) (first : Running) (k : Known) (run : CellRun) (s : CellStage)
    → CameFrom may start first k (running.Cell run s) → HoldComes cell_left cell_shown IsAtCell HasCellTurned start first k run s
cell_comes may start (running.Cell f from) k run s came = record {
  at = came.at;
  tells = λ by new q t h. tells start k new f run q s came by from t h;
  sound = λ ks new q t began h. left_sound start k new f run q s came ks began from t h;
}
cell_comes may start first k run s came = absurd came

pub cell_turns : IsLawfulHold (λ r s. running.Cell r s) cell_left cell_shown IsAtCell HasCellTurned
cell_turns = lawful_hold (λ r s. running.Cell r s) cell_left cell_shown IsAtCell HasCellTurned cell_comes (λ ks k run s u. u)
