-- Calls of one hold that begin.
use Rattle.std.proofs.Common.{◌∙◌, sym, refl, subst}
use Rattle.std.specs.Prelude.{ℕ, ◌≡◌, ◌<◌, Bool, true}
use Rattle.wait_model.specs.declared.layout.TheConstants.{COMPLETIONS}
use Rattle.wait_model.specs.declared.steps.Step.TheVariants as step
use Rattle.wait_model.specs.declared.watches.Mode.TheVariants as mode
use Rattle.wait_model.specs.declared.watches.Watch.TheVariants as watch
use Rattle.wait_rule.specs.declared.journal.Item.TheVariants as item
use Rattle.wait_rule.specs.{Known.Known, Queues.IsIdle, Says.IsUp, Says.added, Stays.Carries, Stays.publish_change}
use Rattle.wait_event.proofs.Setting.{set_idle}
use Rattle.swait_queue.specs.{SimpleWaits.IsSimpleCond, declared.swake_turns.SwakeRun.SwakeRun}
use Rattle.swait_queue.specs.SwakeTurns as swakes
use Rattle.swait_queue.specs.declared.swake_turns.SwakeStage.TheVariants as swake_stage
use Rattle.completion_cell.specs.CellTurns as cells
use Rattle.completion_cell.specs.{declared.cell_turns.CellCall.CellCall, declared.cell_turns.CellRun.CellRun}
use Rattle.completion_cell.specs.declared.cell_turns.CellStage.TheVariants as cell_stage
use Rattle.wq_checked.specs.{Kept.IsReadyWith, Kept.but_kept, declared.kept_bits.KeptBits.KeptBits}
use Rattle.wq_checked.specs.Calls.{CameFrom, IsSwaking, IsCallUnderWay}
use Rattle.wq_checked.specs.declared.calls.Running.TheVariants as running
use Rattle.wq_checked.proofs.{Begun.under, Elsewhere.step_off, Publishing.set_keeps, Publishing.set_owes}
use Rattle.wq_checked.proofs.WakeTurns.{owes_wider}

-- a call about a completion
pub cell_sound : (ks : KeptBits) (k : Known) (r : CellRun) (q : CellCall) (d : ℕ) → IsReadyWith ks k → cells.IsFreshCell r q d
    → d < COMPLETIONS → IsCallUnderWay ks k (running.Cell r cell_stage.First)
cell_sound ks k r q d ready fresh there = under ks k (running.Cell r cell_stage.First) ready tt (record {
  at = record {
    up = ready.up;
    free = ready.idle.free;
    there = subst (λ (n : ℕ). n < COMPLETIONS) (sym fresh.cell) there;
    left = ready.off r.cell;
    stands = refl;
  };
  call = refl;
  cell = refl;
})

-- a wake of a simple queue
pub record Swaking (ks : KeptBits) (k : Known) (cond : ℕ) : Type 0 where
  pub up : IsUp k
  pub idle : IsIdle k
  pub may : IsSwaking ks k cond

pub ready_swaking : (ks : KeptBits) (k : Known) (cond : ℕ) → IsReadyWith ks k → Swaking ks k cond
ready_swaking ks k cond r = record {
  up = r.up;
  idle = r.idle;
  may = record {
    told = r.told;
    keeps = r.keeps;
    owes = owes_wider (watch.Plain cond) mode.Normal (but_kept ks) k r.owes;
    off = r.off;
  };
}

pub set_swaking : (ks : KeptBits) (old mid : Known) (cond value found : ℕ) → IsReadyWith ks old
    → mid ≡ added old (item.Made (step.Publish (watch.Plain cond) value found))
    → Carries (publish_change (watch.Plain cond)) old mid → Swaking ks mid cond
set_swaking ks old mid cond value found r is p = record {
  up = p.awake ∙ r.up;
  idle = set_idle (watch.Plain cond) old mid r.idle p;
  may = record {
    told = p.hold ∙ r.told;
    keeps = set_keeps ks old mid (watch.Plain cond) r p refl;
    owes = set_owes ks old mid (watch.Plain cond) r p refl;
    off = λ d. step_off old mid (step.Publish (watch.Plain cond) value found) tt is r.told d (r.off d);
  };
}

module _ (ks : KeptBits) (k : Known) (r : SwakeRun) (cond : ℕ) (all : Bool) (w : Swaking ks k cond)
    (fresh : swakes.IsFreshSwake r cond all) (simple : IsSimpleCond cond) where
  pub swake_came : (may : Bool) → CameFrom may k (running.Swake r swake_stage.First) k (running.Swake r swake_stage.First)
  swake_came may = record {
    at = record { up = w.up; idle = w.idle; simple = subst IsSimpleCond (sym fresh.cond) simple; stands = refl };
    cond = refl;
    all = refl;
  }

  pub swake_sound : IsCallUnderWay ks k (running.Swake r swake_stage.First)
  swake_sound = under ks k (running.Swake r swake_stage.First) (subst (IsSwaking ks k) (sym fresh.cond) w.may) tt
      (swake_came true)
