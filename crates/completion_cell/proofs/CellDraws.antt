-- A call on a completion that is made by stretches: its first steps, and its looks at its ticket.
use Rattle.std.proofs.Common.{◌∙◌, sym, subst}
use Rattle.std.specs.Prelude.{ℕ, ◌≡◌, ◌<◌, true, false}
use Rattle.wait_model.specs.declared.layout.TheConstants.{HEADS, COMPLETIONS}
use Rattle.wait_model.specs.declared.steps.Step.TheVariants as step
use Rattle.wait_model.specs.declared.watches.Watch.TheVariants as watch
use Rattle.wait_rule.specs.declared.journal.Item.TheVariants as item
use Rattle.wait_rule.specs.{Known.Known, Queues.IsTold, Stays.Carries, Stays.unchanged}
use Rattle.wait_rule.specs.Says.{IsFree, IsUp, added}
use Rattle.wq_head.specs.LockTurns.{AwaitsLock, TookLock}
use Rattle.completion_cell.specs.{declared.cell_turns.CellCall.CellCall, declared.cell_turns.CellRun.CellRun}
use Rattle.completion_cell.specs.declared.cell_turns.CellTurn.{CellTurn}
use Rattle.completion_cell.specs.CellTurns.{HasCellTurned, HoldsForCell, IsAtCell, IsCellOver, CellRests, cell_head}
use Rattle.completion_cell.specs.CellTurns.{peeks_first}
use Rattle.completion_cell.specs.declared.cell_turns.CellCall.TheVariants as call
use Rattle.completion_cell.specs.declared.cell_turns.CellStage.TheVariants as stage
use Rattle.completion_cell.specs.declared.cell_turns.CellTurn.TheVariants as turn
use Rattle.completion_cell.proofs.{CallPermits.ask_off, Ground.as_hold, Ground.head_there}
use Rattle.completion_cell.proofs.Asking.{asked_none, free_on, tried_none}

pub fits : (d h : ℕ) → d < COMPLETIONS → h ≡ cell_head d → h < HEADS
fits d h there same = subst (λ (n : ℕ). n < HEADS) (sym same) (head_there d there)

-- a call that found the count 0 is over
pub peeked_none : (c : CellCall) (d v : ℕ) (start new : Known) → true ≡ peeks_first c → IsUp start → IsFree start
    → IsTold start → new ≡ added start (item.Made (step.Load (watch.Done d) v)) → Carries unchanged start new → v ≡ 0
    → IsCellOver c d false start new
peeked_none call.Complete d v start new first up free told is one zero = absurd (cc)
peeked_none call.CompleteAll d v start new first up free told is one zero = absurd (cc)
peeked_none call.Reinit d v start new first up free told is one zero = absurd (cc)
peeked_none call.IsDone d v start new first up free told is one zero = record {
  ends = asked_none start new d v is one zero;
  up = one.awake ∙ up;
  free = free_on start new one free;
  carries = as_hold start new one;
  off = ask_off start new d v is one free told;
}
peeked_none call.TryWait d v start new first up free told is one zero = record {
  ends = tried_none start new d v is zero;
  up = one.awake ∙ up;
  free = free_on start new one free;
  carries = as_hold start new one;
  off = ask_off start new d v is one free told;
}

-- a look at the ticket: another one is served, or the lock is taken
module _ (start mid new : Known) (r : CellRun) (h : ℕ) (same : h ≡ cell_head r.cell)
    (at : IsAtCell start mid r stage.Turn) where
  pub awaits : AwaitsLock at.stands.base mid h r.ticket
  awaits = subst (λ (i : ℕ). AwaitsLock at.stands.base mid i r.ticket) (sym same) at.stands.awaits

  pub waits_on : (served : ℕ) → AwaitsLock at.stands.base new h r.ticket
      → IsAtCell start new (record r { served = served }) stage.Turn
  waits_on served a = record {
    up = at.up;
    free = at.free;
    there = at.there;
    left = at.left;
    stands = record {
      told = at.stands.told;
      base = at.stands.base;
      begun = at.stands.begun;
      awaits = subst (λ (i : ℕ). AwaitsLock at.stands.base new i r.ticket) same a;
    };
  }

  pub holds_for : TookLock at.stands.base new h → HoldsForCell r.call r.cell start new
  holds_for t = record {
    up = at.up;
    free = at.free;
    left = at.left;
    told = at.stands.told;
    base = at.stands.base;
    begun = at.stands.begun;
    took = subst (TookLock at.stands.base new) same t;
  }

-- where a stretch leaves it, for who knows only that it began
pub rests_of : (start now : Known) (r s : CellRun) (t : CellTurn) → HasCellTurned start now r s t → CellRests now s t
rests_of start now r s turn.Locked h = (start, h.turns)
rests_of start now r s (turn.Done hit) h = (h.turns.up, h.turns.free)
rests_of start now r s (turn.Starved failed) h = h.turns
