-- A turn of a wake: it has come on from where it began, or it is over, and its task ready.
use Rattle.std.proofs.Common.{◌∙◌, sym, refl, subst}
use Rattle.std.specs.Prelude.{◌≡◌, ◌||◌, ◌&&◌, Bool, true, false}
use Rattle.wait_model.specs.{declared.queues.Walked.Walked, declared.watches.Aim.Aim, declared.watches.Mode.Mode}
use Rattle.wait_model.specs.{declared.watches.Watch.Watch, Tasks.meets, Watches.mask_of, Watches.same}
use Rattle.wait_rule.specs.{Known.Known, Says.Excuse, Says.OwesBut, Stays.with_wakes}
use Rattle.wait_rule.proofs.KnownLaws.CarriedTasks.{owes_more}
use Rattle.wq_head.specs.{Walks.IsFull, declared.wakes.WakeRun.WakeRun, declared.wakes.WakeStage.WakeStage}
use Rattle.wq_head.specs.declared.wakes.WakeTurn.{WakeTurn}
use Rattle.wq_head.specs.Turns.{HasTurned, IsAtWake, IsWakeOver}
use Rattle.wq_head.specs.declared.wakes.WakeStage.TheVariants as stage
use Rattle.wq_head.specs.declared.wakes.WakeTurn.TheVariants as turn
use Rattle.wq_checked.specs.{Kept.IsReadyWith, Kept.but_kept, Begins.HasJustBegun, Begins.BeginsAs}
use Rattle.wq_checked.specs.{declared.calls.Call.Call, declared.calls.Running.Running}
use Rattle.wq_checked.specs.declared.kept_bits.KeptBits.{KeptBits}
use Rattle.wq_checked.specs.Calls.{CameFrom, IsRunningSound, IsWaking, WakesFirst, WentOn}
use Rattle.wq_checked.specs.Advancing.{Waking, WakesAs, wake_left, wake_shown}
use Rattle.wq_checked.proofs.Elsewhere.{wakes_off}
use Rattle.wq_checked.proofs.HoldTurns.{HoldComes, IsLawfulHold, lawful_hold}
use Rattle.wq_checked.specs.declared.calls.Running.TheVariants as running

-- what a turn tells
tells : (may : Bool) (start new : Known) (f : WakeRun) (from : WakeStage) (run q : WakeRun) (t : WakeTurn) → run.aim ≡ f.aim
    → HasTurned start new run q t → WentOn may start (running.Wake f from) new (wake_left q t) (wake_shown q t)
tells may start new f from run q (turn.Locked stage.First) is h = ((h.turns, h.aim ∙ is), tt)
tells may start new f from run q (turn.Locked stage.FirstTurn) is h = ((h.turns, h.aim ∙ is), refl)
tells may start new f from run q (turn.Locked stage.Next) is h = ((h.turns, h.aim ∙ is), tt)
tells may start new f from run q (turn.Locked stage.NextTurn) is h = ((h.turns, h.aim ∙ is), refl)
tells may start new f from run q turn.Broken is h = ((h.turns, h.aim ∙ is), tt)
tells may start new f from run q (turn.Done w) is h = (
  refl,
  subst (λ (a : Aim). IsWakeOver a start new w) (h.aim ∙ is) h.turns,
)
tells may start new f from run q (turn.Starved n) is h = refl

-- what is kept of the task then
over_ready : (ks : KeptBits) (start new : Known) (f : WakeRun) (w : Walked) → IsWaking ks start f
    → IsWakeOver f.aim start new w → IsReadyWith ks new
over_ready ks start new f w b o = record {
  up = o.up;
  idle = o.idle;
  told = o.carries.hold;
  keeps = λ d. o.ended.stays.keeps d ∙ b.keeps d;
  owes = o.ended.settled (but_kept ks) b.owes;
  off = λ d. wakes_off f.aim start new w b.told o d (b.off d);
}

left_sound : (ks : KeptBits) (start new : Known) (f : WakeRun) (from : WakeStage) (run q : WakeRun) (t : WakeTurn)
    → IsWaking ks start f → run.aim ≡ f.aim → HasTurned start new run q t → IsRunningSound (wake_left q t) ks new
left_sound ks start new f from run q (turn.Locked s) b is h = record {
  start = start;
  first = running.Wake f from;
  began = b;
  came = (h.turns, h.aim ∙ is);
  stands = tt;
}
left_sound ks start new f from run q turn.Broken b is h = record {
  start = start;
  first = running.Wake f from;
  began = b;
  came = (h.turns, h.aim ∙ is);
  stands = tt;
}
left_sound ks start new f from run q (turn.Done w) b is h = over_ready ks start new f w b
    (subst (λ (a : Aim). IsWakeOver a start new w) (h.aim ∙ is) h.turns)
left_sound ks start new f from run q (turn.Starved n) b is h = tt

wake_comes : (may : Bool) (start : Known) (first : Running) (k : Known) (run : WakeRun) (s : WakeStage)
    → CameFrom may start first k (running.Wake run s) → HoldComes wake_left wake_shown IsAtWake HasTurned start first k run s
wake_comes may start (running.Wake f from) k run s came = record {
  at = came.0;
  tells = λ by new q t h. tells by start new f from run q t came.1 h;
  sound = λ ks new q t began h. left_sound ks start new f from run q t began came.1 h;
}
wake_comes may start first k run s came = absurd came

pub wake_turns : IsLawfulHold (λ r s. running.Wake r s) wake_left wake_shown IsAtWake HasTurned
wake_turns = lawful_hold (λ r s. running.Wake r s) wake_left wake_shown IsAtWake HasTurned wake_comes (λ ks k run s u. u)

module _ (ks : KeptBits) (k : Known) (aim : Aim) (now : Running) (m : Waking ks k aim) (w : WakesFirst aim now) where
  first_at : IsAtWake k k w.run stage.First
  first_at = record {
    up = m.up;
    idle = m.idle;
    full = subst (λ (a : Aim). IsFull a.watch) (sym w.aim_is) m.full;
    tries = λ is. m.owes.tries_none;
    small = w.small;
    stands = refl;
  }

  pub first_begins : (c : Call) → WakesAs c aim → HasJustBegun c k now
  first_begins c is_first = record {
    first = subst (BeginsAs c) (sym w.is) (is_first w.run w.aim_is);
    came = subst (λ (r : Running). CameFrom false k r k r) (sym w.is) (first_at, refl);
  }

  pub first_sound : IsRunningSound now ks k
  first_sound = subst (λ (r : Running). IsRunningSound r ks k) (sym w.is) (record {
    start = k;
    first = running.Wake w.run stage.First;
    began = record {
      keeps = m.keeps;
      told = m.told;
      owes = subst (λ (a : Aim). OwesBut (with_wakes a.watch a.mode (but_kept ks)) k) (sym w.aim_is) m.owes;
      off = m.off;
    };
    came = (first_at, refl);
    stands = tt;
  })

-- one that owes nothing may owe wakes
or_more : (a b : Bool) → a ≡ true → (a || b) ≡ true
or_more true b is = refl
or_more false b is = absurd (cc)

pub owes_wider : (c : Watch) (m : Mode) (x : Excuse) (k : Known) → OwesBut x k → OwesBut (with_wakes c m x) k
unfolding with_wakes
owes_wider c m x k o = owes_more x (with_wakes c m x) k refl refl refl refl refl
    (λ d σ. or_more (x.wakes d σ) (same d c && meets (mask_of m) σ)) o
