-- What a ready task knows, and what keeps it ready: by the bits that it keeps and what it owes.
use Rattle.std.proofs.Common.{◌∙◌, ap, sym, refl, subst, eqb-true}
use Rattle.std.specs.Prelude.{ℕ, ◌≡◌, ◌||◌, ◌&&◌, ◌==◌, not, Bool, true, false, None}
use Rattle.wait_model.specs.{declared.watches.Watch.Watch, Watches.same}
use Rattle.wait_model.specs.declared.watches.Watch.TheVariants as watch
use Rattle.wait_model.proofs.Functions.{both_left, both_right}
use Rattle.wait_rule.specs.{Bits.SetsBit, Bits.taken_bits, HandedPermits.StaysOff, Known.Known}
use Rattle.wait_rule.specs.Queues.{index}
use Rattle.wait_rule.specs.Says.{AsksNoPage, Obligation, OwesBut, excuses, has_duty, no_excuse, told_of, wake_of}
use Rattle.wait_rule.specs.Says.{page_asked, end_unclosed}
use Rattle.wait_rule.specs.Stays.{Carries, unchanged, with_bit, with_bits}
use Rattle.wait_class.specs.Posts.{IsOut}
use Rattle.wq_checked.specs.{Calls.IsRunningSound, Reasons.busy_reason, declared.calls.Running.Running}
use Rattle.wq_checked.specs.declared.kept_bits.KeptBits.{KeptBits}
use Rattle.wq_checked.specs.Kept.{IsReadyWith, but_kept, keeps_in}
use Rattle.wq_checked.specs.declared.calls.Running.TheVariants as running

pub or_none : (b : Bool) → (b || false) ≡ b
or_none true = refl
or_none false = refl

-- its entries are off, and it asks for no page
pub ready_out : (ks : KeptBits) (k : Known) → IsReadyWith ks k → IsOut k
unfolding with_bits
ready_out ks k r = r.owes.unqueued (index k.view.number 0)

asks_none : (ks : KeptBits) (k : Known) → ((d : Obligation) → (has_duty k d && not (excuses (but_kept ks) d)) ≡ false)
    → (d : Obligation) → (has_duty k d && not (excuses no_excuse d)) ≡ false
unfolding with_bits
asks_none ks k h (wake_of c σ) = h (wake_of c σ)
asks_none ks k h page_asked = h page_asked
asks_none ks k h (end_unclosed e) = h (end_unclosed e)

pub ready_asks : (ks : KeptBits) (k : Known) → IsReadyWith ks k → AsksNoPage k
ready_asks ks k r d is = asks_none ks k r.owes.debts.none d

-- other masks of the same bits
pub owes_by : (f g : Watch → Bool) (k : Known) → ((d : Watch) → f d ≡ g d) → OwesBut (record no_excuse { bits = f }) k
    → OwesBut (record no_excuse { bits = g }) k
owes_by f g k h o = subst (λ (p : Watch → Bool). OwesBut (record no_excuse { bits = p }) k) (λ i d. h d i) o

pub owes_masks : (ks more : KeptBits) (k : Known) → ((d : Watch) → keeps_in more d ≡ keeps_in ks d)
    → OwesBut (but_kept ks) k → OwesBut (but_kept more) k
unfolding with_bits
owes_masks ks more k h o = owes_by (λ d. keeps_in ks d || false) (λ d. keeps_in more d || false) k
    (λ d. ap (λ (b : Bool). b || false) (sym (h d))) o

pub ready_masks : (ks more : KeptBits) (k : Known) → ((d : Watch) → keeps_in more d ≡ keeps_in ks d)
    → IsReadyWith ks k → IsReadyWith more k
ready_masks ks more k h r = record {
  up = r.up;
  idle = r.idle;
  told = r.told;
  keeps = λ d. r.keeps d ∙ sym (h d);
  owes = owes_masks ks more k h r.owes;
  off = r.off;
}

-- bits that were taken
pub owes_more_bits : (ks more : KeptBits) (t : Watch → Bool) (k : Known)
    → ((d : Watch) → keeps_in more d ≡ (t d || keeps_in ks d)) → OwesBut (with_bits t (but_kept ks)) k
    → OwesBut (but_kept more) k
unfolding with_bits
owes_more_bits ks more t k h o = owes_by (λ d. t d || (keeps_in ks d || false)) (λ d. keeps_in more d || false) k
    (λ d. ap (λ (b : Bool). t d || b) (or_none (keeps_in ks d)) ∙ (sym (h d) ∙ sym (or_none (keeps_in more d)))) o

-- a watch of a bit is that bit
pub same_is : (d : Watch) (w b : ℕ) → same d (watch.Bit w b) ≡ true → d ≡ watch.Bit w b
same_is (watch.Plain c) w b h = absurd (cc)
same_is (watch.Done c) w b h = absurd (cc)
same_is (watch.Var v o) w b h = absurd (cc)
same_is (watch.Bit v a) w b h = λ i. watch.Bit (eqb-true v w (both_left (v == w) (a == b) h) i)
    (eqb-true a b (both_right (v == w) (a == b) h) i)

-- bits of a task that took some, and of one that gave one back
pub keeps_more : (ks more : KeptBits) (old new : Known) (w b : ℕ) (g : Bool)
    → ((d : Watch) → keeps_in more d ≡ (taken_bits (watch.Bit w b) g d || keeps_in ks d))
    → ((d : Watch) → taken_bits (watch.Bit w b) g d ≡ false → (told_of new).bits.keeps d ≡ (told_of old).bits.keeps d)
    → (g ≡ true → (told_of new).bits.keeps (watch.Bit w b) ≡ true)
    → ((d : Watch) → (told_of old).bits.keeps d ≡ keeps_in ks d)
    → (d : Watch) → (told_of new).bits.keeps d ≡ keeps_in more d
keeps_more ks more old new w b g notes others got had d = by g (same d (watch.Bit w b)) refl refl
  where
    by : (h t : Bool) → g ≡ h → same d (watch.Bit w b) ≡ t → (told_of new).bits.keeps d ≡ keeps_in more d
    by true true is at = ap (told_of new).bits.keeps (same_is d w b at) ∙ (got is
        ∙ sym (notes d ∙ (λ i. (is i && at i) || keeps_in ks d)))
    by true false is at = others d (λ i. is i && at i) ∙ (had d ∙ sym (notes d ∙ (λ i. (is i && at i)
        || keeps_in ks d)))
    by false t is at = others d (λ i. is i && at i) ∙ (had d ∙ sym (notes d ∙ (λ i. (is i && at i)
        || keeps_in ks d)))

pub keeps_less : (ks less : KeptBits) (old new : Known) (w b : ℕ)
    → ((d : Watch) → keeps_in less d ≡ (not (same d (watch.Bit w b)) && keeps_in ks d))
    → ((d : Watch) → same d (watch.Bit w b) ≡ false → (told_of new).bits.keeps d ≡ (told_of old).bits.keeps d)
    → (told_of new).bits.keeps (watch.Bit w b) ≡ false
    → ((d : Watch) → (told_of old).bits.keeps d ≡ keeps_in ks d)
    → (d : Watch) → (told_of new).bits.keeps d ≡ keeps_in less d
keeps_less ks less old new w b notes others gone had d = by (same d (watch.Bit w b)) refl
  where
    by : (t : Bool) → same d (watch.Bit w b) ≡ t → (told_of new).bits.keeps d ≡ keeps_in less d
    by true at = ap (told_of new).bits.keeps (same_is d w b at) ∙ (gone
        ∙ sym (notes d ∙ ap (λ (t : Bool). not t && keeps_in ks d) at))
    by false at = others d at ∙ (had d ∙ sym (notes d ∙ ap (λ (t : Bool). not t && keeps_in ks d) at))

-- who gives a bit back that it keeps is excused of it, and of what is left
pub owes_given : (ks less : KeptBits) (w b : ℕ) (k : Known)
    → ((d : Watch) → keeps_in less d ≡ (not (same d (watch.Bit w b)) && keeps_in ks d))
    → keeps_in ks (watch.Bit w b) ≡ true → OwesBut (but_kept ks) k
    → OwesBut (with_bit (watch.Bit w b) (but_kept less)) k
unfolding with_bits
owes_given ks less w b k notes kept o = owes_by (λ d. keeps_in ks d || false)
    (λ d. same d (watch.Bit w b) || (keeps_in less d || false)) k (λ d. by d (same d (watch.Bit w b)) refl) o
  where
    by : (d : Watch) (t : Bool) → same d (watch.Bit w b) ≡ t
        → (keeps_in ks d || false) ≡ (same d (watch.Bit w b) || (keeps_in less d || false))
    by d true at = ap (λ (e : Watch). keeps_in ks e || false) (same_is d w b at) ∙ (ap (λ (u : Bool). u || false) kept
        ∙ sym (ap (λ (t : Bool). t || (keeps_in less d || false)) at))
    by d false at = sym (ap (λ (t : Bool). t || (keeps_in less d || false)) at
        ∙ ap (λ (u : Bool). u || false) (notes d ∙ ap (λ (t : Bool). not t && keeps_in ks d) at))

-- where no call is under way
idle_is : (r : Running) → busy_reason r ≡ None → r ≡ running.Idle
idle_is running.Idle is = refl
idle_is (running.Event run last) is = absurd (cc)
idle_is (running.Bit run last) is = absurd (cc)
idle_is (running.Lock run last) is = absurd (cc)
idle_is (running.Page run last) is = absurd (cc)
idle_is (running.Await run last) is = absurd (cc)
idle_is (running.Swake run last) is = absurd (cc)
idle_is (running.Cell run last) is = absurd (cc)
idle_is (running.Wake run last) is = absurd (cc)
idle_is running.Starved is = absurd (cc)

-- there the task is ready, and the other way
pub ready_of : (ks : KeptBits) (k : Known) (r : Running) → busy_reason r ≡ None → IsRunningSound r ks k → IsReadyWith ks k
ready_of ks k r is s = subst (λ (q : Running). IsRunningSound q ks k) (idle_is r is) s

-- a call that changes nothing of it, and one that takes a bit where it is clear
pub ready_carried : (ks : KeptBits) (old new : Known) → Carries unchanged old new → StaysOff old new → IsReadyWith ks old
    → IsReadyWith ks new
ready_carried ks old new c off r = record {
  up = c.awake ∙ r.up;
  idle = record {
    running = c.state ∙ r.idle.running;
    free = record { head = c.head ∙ r.idle.free.head; ticket = c.ticket ∙ r.idle.free.ticket };
    unmarked = c.mark ∙ r.idle.unmarked;
  };
  told = c.hold ∙ r.told;
  keeps = λ d. c.keeps d refl ∙ r.keeps d;
  owes = c.owes (but_kept ks) r.owes;
  off = λ d. off d (r.off d);
}

pub ready_sets : (ks more : KeptBits) (old new : Known) (w b : ℕ) (clear : Bool)
    → ((d : Watch) → keeps_in more d ≡ (taken_bits (watch.Bit w b) clear d || keeps_in ks d))
    → SetsBit old new (watch.Bit w b) clear → StaysOff old new → IsReadyWith ks old → IsReadyWith more new
ready_sets ks more old new w b clear notes s off r = record {
  up = s.stays.awake ∙ r.up;
  idle = record {
    running = s.stays.state ∙ r.idle.running;
    free = record { head = s.stays.head ∙ r.idle.free.head; ticket = s.stays.ticket ∙ r.idle.free.ticket };
    unmarked = s.stays.mark ∙ r.idle.unmarked;
  };
  told = s.stays.hold ∙ r.told;
  keeps = keeps_more ks more old new w b clear notes s.stays.keeps s.keeps r.keeps;
  owes = owes_more_bits ks more (taken_bits (watch.Bit w b) clear) new notes (s.owes (but_kept ks) r.owes);
  off = λ d. off d (r.off d);
}
