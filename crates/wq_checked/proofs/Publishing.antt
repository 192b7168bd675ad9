-- What a publish leaves, and a look for members after it: a task that may begin its wake, or a ready one.
use Rattle.std.proofs.Common.{◌∙◌, arith, ap, sym, refl, subst}
use Rattle.std.specs.Prelude.{ℕ, ◌≡◌, ◌||◌, ◌&&◌, not, Bool, true, false}
use Rattle.wait_model.specs.declared.steps.Step.TheVariants as step
use Rattle.wait_model.specs.{declared.watches.Aim.Aim, declared.watches.Mode.Mode, declared.watches.Watch.Watch}
use Rattle.wait_model.specs.declared.queues.Walked.{Walked}
use Rattle.wait_model.specs.Watches.{IsThere, head_of, is_bit, same}
use Rattle.wait_model.specs.declared.watches.Mode.TheVariants as mode
use Rattle.wait_model.specs.declared.watches.Watch.TheVariants as watch
use Rattle.wait_rule.specs.declared.journal.Item.TheVariants as item
use Rattle.wait_rule.specs.{Bits.ClearsBit, LeftEntries.HasLeftNone, Known.Known, Queues.IsIdle}
use Rattle.wait_rule.specs.Says.{OwesBut, added, told_of}
use Rattle.wait_rule.specs.Stays.{Carries, publish_change, unchanged, with_bits, with_wakes}
use Rattle.wq_head.proofs.HeadLooks.{found_none_over}
use Rattle.wq_head.specs.Scanned.{HasEndedAt, HasScanned, unmade}
use Rattle.wq_head.specs.Walks.{IsFull}
use Rattle.wait_event.proofs.Setting.{set_idle}
use Rattle.wq_checked.specs.{Begins.LooksBehind, Advancing.Waking, Advancing.WakesAs, Calls.WakesFirst}
use Rattle.wq_checked.specs.{declared.calls.Call.Call, declared.calls.Running.Running}
use Rattle.wq_checked.specs.declared.kept_bits.KeptBits.{KeptBits}
use Rattle.wq_checked.specs.Kept.{IsReadyWith, but_kept, keeps_in}
use Rattle.wq_checked.proofs.{Elsewhere.scan_off, Elsewhere.step_off, Readiness.keeps_less, Readiness.owes_given}
use Rattle.wq_checked.proofs.{WakeTurns.first_begins, WakeTurns.owes_wider}
use Rattle.wq_checked.specs.declared.calls.Answer.TheVariants as answer
use Rattle.wq_checked.specs.declared.calls.Progress.TheVariants as progress
use Rattle.wq_checked.specs.declared.calls.Running.TheVariants as running

pub full_there : (w : Watch) → IsFull w → IsThere w
full_there (watch.Plain c) f = omega arith
full_there (watch.Done d) f = absurd f
full_there (watch.Bit w b) f = f
full_there (watch.Var v o) f = f

-- masks show no other watches than bits
pub no_bit : (ks : KeptBits) (c d : Watch) → is_bit c ≡ false → same d c ≡ true → keeps_in ks d ≡ false
unfolding keeps_in
no_bit ks c (watch.Plain e) not_bit is = refl
no_bit ks c (watch.Done e) not_bit is = refl
no_bit ks c (watch.Var v o) not_bit is = refl
no_bit ks (watch.Bit v a) (watch.Bit w b) not_bit is = absurd (cc)
no_bit ks (watch.Plain e) (watch.Bit w b) not_bit is = absurd (cc)
no_bit ks (watch.Done e) (watch.Bit w b) not_bit is = absurd (cc)
no_bit ks (watch.Var v o) (watch.Bit w b) not_bit is = absurd (cc)

-- what a task keeps that owes no more than the masks show
kept_none : (f k : Bool) → f ≡ false → (not (f || false) && k) ≡ false → k ≡ false
kept_none true k is h = absurd (cc)
kept_none false k is h = h

pub bits_hold : (ks : KeptBits) (k : Known) (c d : Watch) → OwesBut (with_wakes c mode.Normal (but_kept ks)) k
    → keeps_in ks d ≡ false → (told_of k).bits.keeps d ≡ false
unfolding with_wakes with_bits
bits_hold ks k c d o none = kept_none (keeps_in ks d) ((told_of k).bits.keeps d) none (o.holds d)

-- a condition or a variable that was published
module _ (ks : KeptBits) (old mid : Known) (c : Watch) (r : IsReadyWith ks old) (p : Carries (publish_change c) old mid)
    (not_bit : is_bit c ≡ false) where
  pub set_owes : OwesBut (with_wakes c mode.Normal (but_kept ks)) mid
  set_owes = p.owes (but_kept ks) r.owes

  pub set_keeps : (d : Watch) → (told_of mid).bits.keeps d ≡ keeps_in ks d
  set_keeps d = by (same d c) refl
    where
      by : (t : Bool) → same d c ≡ t → (told_of mid).bits.keeps d ≡ keeps_in ks d
      by true at = bits_hold ks mid c d set_owes (no_bit ks c d not_bit at) ∙ sym (no_bit ks c d not_bit at)
      by false at = p.keeps d at ∙ r.keeps d

module _ (ks : KeptBits) (old mid : Known) (aim : Aim) (r : IsReadyWith ks old) (value found : ℕ)
    (is : mid ≡ added old (item.Made (step.Publish aim.watch value found)))
    (p : Carries (publish_change aim.watch) old mid) (normal : aim.mode ≡ mode.Normal)
    (not_bit : is_bit aim.watch ≡ false) (full : IsFull aim.watch) where
  pub set_waking : Waking ks mid aim
  set_waking = record {
    up = p.awake ∙ r.up;
    idle = set_idle aim.watch old mid r.idle p;
    full = full;
    keeps = set_keeps ks old mid aim.watch r p not_bit;
    told = p.hold ∙ r.told;
    owes = subst (λ (m : Mode). OwesBut (with_wakes aim.watch m (but_kept ks)) mid) (sym normal)
        (set_owes ks old mid aim.watch r p not_bit);
    off = λ d. step_off old mid (step.Publish aim.watch value found) tt is r.told d (r.off d);
  }

-- a ready task may wake for a condition
pub ready_waking : (ks : KeptBits) (k : Known) (aim : Aim) → IsReadyWith ks k → IsFull aim.watch → Waking ks k aim
ready_waking ks k aim r full = record {
  up = r.up;
  idle = r.idle;
  full = full;
  keeps = r.keeps;
  told = r.told;
  owes = owes_wider aim.watch aim.mode (but_kept ks) k r.owes;
  off = r.off;
}

-- a bit that was given back
pub gave_waking : (ks less : KeptBits) (old mid : Known) (aim : Aim) (w b found : ℕ) → aim.watch ≡ watch.Bit w b
    → aim.mode ≡ mode.Normal → IsFull (watch.Bit w b) → IsReadyWith ks old
    → ((d : Watch) → keeps_in less d ≡ (not (same d (watch.Bit w b)) && keeps_in ks d))
    → keeps_in ks (watch.Bit w b) ≡ true → ClearsBit old mid (watch.Bit w b)
    → mid ≡ added old (item.Made (step.Publish (watch.Bit w b) 0 found)) → Waking less mid aim
gave_waking ks less old mid aim w b found at normal full r notes kept c is = record {
  up = c.stays.awake ∙ r.up;
  idle = record {
    running = c.stays.state ∙ r.idle.running;
    free = record { head = c.stays.head ∙ r.idle.free.head; ticket = c.stays.ticket ∙ r.idle.free.ticket };
    unmarked = c.stays.mark ∙ r.idle.unmarked;
  };
  full = subst IsFull (sym at) full;
  keeps = keeps_less ks less old mid w b notes c.stays.keeps c.keeps r.keeps;
  told = c.stays.hold ∙ r.told;
  owes = subst (λ (v : Watch). OwesBut (with_wakes v aim.mode (but_kept less)) mid) (sym at)
      (subst (λ (m : Mode). OwesBut (with_wakes (watch.Bit w b) m (but_kept less)) mid) (sym normal)
      (c.owes (but_kept less) (owes_given ks less w b old notes kept r.owes)));
  off = λ d. step_off old mid (step.Publish (watch.Bit w b) 0 found) tt is r.told d (r.off d);
}

-- after a look for members that found some, and after one that found none
module _ (ks : KeptBits) (mid new : Known) (aim : Aim) (k : Waking ks mid aim) (hit : Bool)
    (looked : HasScanned mid new (head_of aim.watch) hit) (s : Carries unchanged mid new) where
  looked_idle : IsIdle new
  looked_idle = record {
    running = s.state ∙ k.idle.running;
    free = record { head = s.head ∙ k.idle.free.head; ticket = s.ticket ∙ k.idle.free.ticket };
    unmarked = s.mark ∙ k.idle.unmarked;
  }

  looked_off : HasLeftNone new
  looked_off d = scan_off mid new (head_of aim.watch) hit looked k.told d (k.off d)

  pub looked_waking : Waking ks new aim
  looked_waking = record {
    up = s.awake ∙ k.up;
    idle = looked_idle;
    full = k.full;
    keeps = λ d. s.keeps d refl ∙ k.keeps d;
    told = s.hold ∙ k.told;
    owes = s.owes (with_wakes aim.watch aim.mode (but_kept ks)) k.owes;
    off = looked_off;
  }

  pub silent_ready : aim.mode ≡ mode.Normal → HasEndedAt mid new (head_of aim.watch) → IsReadyWith ks new
  silent_ready normal e = record {
    up = s.awake ∙ k.up;
    idle = looked_idle;
    told = s.hold ∙ k.told;
    keeps = λ d. s.keeps d refl ∙ k.keeps d;
    owes = found_none_over aim.watch mid new e (but_kept ks)
        (subst (λ (m : Mode). OwesBut (with_wakes aim.watch m (but_kept ks)) mid) normal k.owes);
    off = looked_off;
  }

  pub looks_hit : (c : Call) → WakesAs c aim → (now : Running) → hit ≡ true → WakesFirst aim now
      → LooksBehind c aim.watch mid new progress.Again now
  looks_hit c wakes now found_some w = record {
    hit = true;
    looked = subst (HasScanned mid new (head_of aim.watch)) found_some looked;
    goes = (refl, first_begins ks new aim now looked_waking w c wakes);
  }

  pub looks_none : (c : Call) (w : Walked) → hit ≡ false → w ≡ unmade
      → LooksBehind c aim.watch mid new (progress.Done (answer.Walked w)) running.Idle
  looks_none c w found_none unmade_is = record {
    hit = false;
    looked = subst (HasScanned mid new (head_of aim.watch)) found_none looked;
    goes = (ap (λ (v : Walked). progress.Done (answer.Walked v)) unmade_is, refl);
  }
