-- The entries of adds for bits and variables.
use Rattle.std.proofs.Common.{◌∙◌, ap, sym, refl, subst, inl, inr, eq-eqb, eqb-true}
use Rattle.std.proofs.lemmas.Bool.{and_right}
use Rattle.std.specs.Prelude.{ℕ, ◌≡◌, ◌≢◌, ◌&&◌, ◌||◌, ◌==◌, not, Bool, true, false}
use Rattle.std.specs.Prelude.{Option, Some}
use Rattle.wait_model.specs.{declared.watches.Watch.Watch}
use Rattle.wait_model.specs.{declared.watches.Kind.Kind, declared.watches.Entry.Entry, Views.View as Told}
use Rattle.wait_model.specs.{Views.is_trying_for, Fold.after}
use Rattle.wait_model.specs.Watches.{is_page, page, same}
use Rattle.wait_model.specs.declared.queues.Form.TheVariants as forms
use Rattle.wait_model.specs.declared.watches.Kind.TheVariants as kind
use Rattle.wait_model.specs.declared.steps.Step.TheVariants as step
use Rattle.wait_model.proofs.Functions.{put_at}
use Rattle.wait_rule.specs.declared.journal.Item.TheVariants as item
use Rattle.wait_rule.specs.{Asked.is_asking, Asked.waits_for, Known.Known, Queues.index}
use Rattle.wait_rule.specs.Says.{Debts, Obligation, Excuse, IsOutBut, OwesBut, TriesNone, added, asks_for, end_unclosed}
use Rattle.wait_rule.specs.Says.{excuses, has_duty, has_end, is_excused, page_asked, stored_with, told_of, wake_of}
use Rattle.wait_rule.specs.Stays.{Carries, only_looks, with_entry, with_page}
use Rattle.wait_rule.proofs.{KnownLaws.AskedPages.asked_added, KnownLaws.StayingParts.owes_also}
use Rattle.wait_rule.proofs.KnownLaws.Debts.{LeavesNone, end_added, leaves_of, leaves_stored}
use Rattle.wq_head.proofs.CarriedHolds.{looks_carried}
use Rattle.wq_head.specs.Adds.{IsFor, HasAddedForBit, HasAddedForPage, HasPut, front_entry}
use Rattle.wq_head.specs.Adds.{page_change, tail_entry}
use Rattle.wq_head.proofs.AddedEntries.{TriesNo, full_unpaged, put_counts, put_is}
use Rattle.wq_head.proofs.AddedEntries.{put_looks, put_off, put_sort, queue_carried, queue_memberd, queue_other, queue_told}
use Rattle.wq_head.proofs.PermitHeads.{page_low}

pub front_tries : (w : Watch) (k : Kind) (p : ℕ) → IsFor w k → TriesNo (front_entry w k p)
front_tries w k p is = (λ c. refl, unpaged is)
  where
    unpaged : IsFor w k → not (is_page k) ≡ true
    unpaged (inl plain) = full_unpaged k plain.3
    unpaged (inr (inl bit)) = ap (λ (q : Kind). not (is_page q)) bit.0
    unpaged (inr (inr var)) = ap (λ (q : Kind). not (is_page q)) var.0

-- the whole add of an exclusive entry for a bit
module _ (old new : Known) (slot : ℕ) (made : ℕ → Entry) (at : (p : ℕ) → (made p).place ≡ p)
    (h : HasPut forms.Tail old new slot made) where
  abbrev x : ℕ
  x = index old.view.number slot

  pub added_for_bit : HasAddedForBit old new slot made
  added_for_bit = let is = put_is forms.Tail old new slot made at h in record {
    place = h.place;
    seen = h.put.seen;
    looks = put_looks forms.Tail old new slot made at h;
    whole = h.put.whole;
    low = h.put.low h.low;
    is_off = put_off forms.Tail old new slot made at h;
    sort = put_sort forms.Tail old new slot made at h;
    is = is;
    queued = queue_memberd h.put.seen new x (made h.place) is;
    others = λ y other. queue_other h.put.seen new x (made h.place) is y (apart y other (y == x) refl);
    counts = put_counts forms.Tail old new slot made at h;
  }
    where
      apart : (y : ℕ) → y ≢ x → (b : Bool) → (y == x) ≡ b → (y == x) ≡ false
      apart y other true is = absurd (other (eqb-true y x is))
      apart y other false is = is

-- an entry for a page that the task stores: it owes to ask for it no more
module _ (seen new : Known) (x w p : ℕ)
    (is : new ≡ stored_with seen (step.Queue x (tail_entry true (page w) kind.Page p))) where
  abbrev e : Entry
  e = tail_entry true (page w) kind.Page p

  told : told_of new ≡ after (step.Queue x e) (told_of seen)
  told = queue_told seen new x e is

  pub page_asks : asks_for new ≡ waits_for x w
  page_asks = ap asks_for is ∙ (asked_added (added seen (item.Made (step.Queue x e))) item.Member
      ∙ asked_added seen (item.Made (step.Queue x e)))

  page_debts : (f : Excuse) → Debts f seen → Debts (with_page (with_entry x f)) new
  unfolding with_page with_entry
  page_debts f d = record { none = by; off = λ none. (leaves none).off; shows = λ none. (leaves none).shows }
    where
      leaves : f.left ≡ false → LeavesNone new
      leaves none = leaves_stored seen new (step.Queue x e) (page_low w) is (leaves_of f seen d none)

      by : (o : Obligation) → (has_duty new o && not (excuses (with_page (with_entry x f)) o)) ≡ false
      by (wake_of c σ) = ap (λ (v : Told). v.duty.owes c σ && not (is_excused f c σ)) told ∙ d.none (wake_of c σ)
      by page_asked = and_right (is_asking (asks_for new)) false refl
      by (end_unclosed k) = ap (λ (b : Bool). b && not (f.ends k)) (ap (has_end k) is
          ∙ (end_added (added seen (item.Made (step.Queue x e))) item.Member k
          ∙ end_added seen (item.Made (step.Queue x e)) k)) ∙ d.none (end_unclosed k)

  tries_by : TriesNone (told_of seen) → TriesNone (told_of new)
  tries_by none y c = ap (λ (v : Told). is_trying_for (v.bits.stored y) c) told
      ∙ put_at (λ (s : Option Entry). is_trying_for s c ≡ false) (told_of seen).bits.stored x (Some e) y
      (λ _. and_right (same c (page w)) false refl) (λ _. none y c)

  page_owing : (f : Excuse) → OwesBut f seen → OwesBut (with_page (with_entry x f)) new
  unfolding with_page with_entry
  page_owing f o = record {
    unmarked = ap (λ (v : Told). v.mark) told ∙ o.unmarked;
    debts = page_debts f o.debts;
    unqueued = λ y. subst (λ (v : Told). IsOutBut ((y == x) || f.entries y) (v.bits.stored y)) (sym told)
        (put_at (λ (s : Option Entry). IsOutBut ((y == x) || f.entries y) s) (told_of seen).bits.stored x
        (Some e) y (λ here. subst (λ (b : Bool). IsOutBut (b || f.entries y) (Some e)) (sym (eq-eqb y x here)) tt)
        (λ _. (owes_also x f seen o).unqueued y));
    holds = λ c. ap (λ (v : Told). not (f.bits c) && v.bits.keeps c) told ∙ o.holds c;
    tries = λ c. ap (λ (v : Told). v.bits.pending c) told ∙ o.tries c;
    tries_none = tries_by o.tries_none;
  }

  pub page_carried : (old : Known) → Carries only_looks old seen → Carries (page_change x) old new
  page_carried old l = queue_carried seen new x e is old (λ f. with_page (with_entry x f)) l page_owing

-- the whole add of an entry for a page
pub added_for_page : (old new : Known) (w : ℕ) → HasPut forms.Tail old new 0 (tail_entry true (page w) kind.Page)
    → HasAddedForPage old new w
added_for_page old new w h =
    let made = tail_entry true (page w) kind.Page in
    let b = added_for_bit old new 0 made (λ p. refl) h in
    let x = index old.view.number 0 in record {
      place = b.place;
      seen = b.seen;
      looks = b.looks;
      whole = b.whole;
      low = b.low;
      is_off = b.is_off;
      sort = b.sort;
      is = b.is;
      queued = b.queued;
      asks = page_asks b.seen new x w b.place b.is;
      counts = b.counts;
      carries = page_carried b.seen new x w b.place b.is old (looks_carried old b.seen b.looks);
    }
