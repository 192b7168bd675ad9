-- A wake of a simple queue that is made by stretches: its draw, and what its hold leaves.
use Rattle.std.proofs.Common.{◌∙◌, ap, sym, refl, subst}
use Rattle.std.specs.Prelude.{ℕ, ◌≡◌, ◌<◌, ◌≤◌}
use Rattle.wait_model.specs.declared.layout.TheConstants.{FIRST_SIMPLE_HEAD, HEADS}
use Rattle.wait_model.specs.declared.watches.Mode.TheVariants as mode
use Rattle.wait_model.specs.declared.watches.Watch.TheVariants as watch
use Rattle.wait_model.specs.Watches.{head_of}
use Rattle.wait_rule.specs.{Known.Known, Stays.Carries, Stays.wake_all_change}
use Rattle.wait_rule.specs.Says.{unlocked_with}
use Rattle.wait_rule.proofs.KnownLaws.CarriedCounts.{excused_more}
use Rattle.wait_class.proofs.WatchHeads.{head_fits}
use Rattle.wq_head.specs.LockTurns.{AwaitsLock, TookLock}
use Rattle.wq_head.specs.Selects.{HasSelected, IsSimpleHold, KeepsHold}
use Rattle.swait_queue.specs.{declared.swake_turns.SwakeRun.SwakeRun}
use Rattle.swait_queue.specs.{SimpleWaits.IsSimpleCond, SimpleWakes.is_swake_spent, SimpleWakes.most_of}
use Rattle.swait_queue.specs.SwakeTurns.{HoldsForSwake, IsAtSwake, IsSwakeOver, swake_head}
use Rattle.swait_queue.specs.declared.swake_turns.SwakeStage.TheVariants as stage
use Rattle.swait_queue.proofs.SimpleWakeEnds.{ends_wake, head_simple, wake_carries, wake_idle}

-- after it
pub draws : (start now new : Known) (r : SwakeRun) (h n : ℕ) → h ≡ swake_head r → AwaitsLock now new h n
    → IsAtSwake start now r stage.First → IsAtSwake start new (record r { ticket = n }) stage.Turn
draws start now new r h n same a at = record {
  up = at.up;
  idle = at.idle;
  simple = at.simple;
  stands = subst (λ (i : ℕ). AwaitsLock start new i n) same
      (subst (λ (k : Known). AwaitsLock k new h n) at.stands a);
}

-- a look at the ticket: another one is served, or the lock is taken
module _ (start mid new : Known) (r : SwakeRun) (h : ℕ) (same : h ≡ swake_head r) (at : IsAtSwake start mid r stage.Turn)
  where
    pub awaits : AwaitsLock start mid h r.ticket
    awaits = subst (λ (i : ℕ). AwaitsLock start mid i r.ticket) (sym same) at.stands

    pub waits_on : (served : ℕ) → AwaitsLock start new h r.ticket
        → IsAtSwake start new (record r { served = served }) stage.Turn
    waits_on served a = record {
      up = at.up;
      idle = at.idle;
      simple = at.simple;
      stands = subst (λ (i : ℕ). AwaitsLock start new i r.ticket) same a;
    }

    pub holds_for : TookLock start new h → HoldsForSwake start new r
    holds_for t = record {
      idle = at.idle;
      simple = at.simple;
      took = subst (TookLock start new) same t;
    }

-- the head is a simple one
pub high : (r : SwakeRun) → IsSimpleCond r.cond → FIRST_SIMPLE_HEAD ≤ swake_head r
high r simple = head_simple r.cond simple

pub fits : (c h : ℕ) → IsSimpleCond c → h ≡ head_of (watch.Plain c) → h < HEADS
fits c h simple same = subst (λ (n : ℕ). n < HEADS) (sym same) (head_fits c simple.plain)

-- after the selection and the unlock
module _ (start locked last new : Known) (r : SwakeRun) (n : ℕ) (i : HoldsForSwake start locked r)
    (s : HasSelected locked last (most_of r.all) n) (k : KeepsHold locked last)
    (keeps : IsSimpleHold locked → IsSimpleHold last)
    (is : new ≡ unlocked_with last last.at (is_swake_spent r.all n)) where
  abbrev h : ℕ
  h = swake_head r

  carries : Carries (wake_all_change (watch.Plain r.cond) mode.Normal new.at) start new
  carries = wake_carries start locked last new r.cond r.all n h i.simple refl i.took.locked s k is
      (keeps (i.took.simple (high r i.simple))) i.idle

  pub is_over : IsSwakeOver start new r.cond r.all n
  is_over = record {
    woken = ends_wake start locked last new r.cond r.all n h i.simple refl i.took.locked s k is;
    up = ap (λ (j : Known). j.book.awake) is ∙ (k.stays.awake ∙ i.took.up);
    idle = wake_idle start locked last new r.cond r.all n h i.simple refl i.took.locked s k is
        (keeps (i.took.simple (high r i.simple))) i.idle;
    carries = carries;
    owing = λ x owes. carries.owes x (excused_more (watch.Plain r.cond) x start owes);
  }
