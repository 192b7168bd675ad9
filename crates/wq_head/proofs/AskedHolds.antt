-- What a task asks for, over looks and over other steps that begin no debt.
use Rattle.std.proofs.Common.{◌∙◌, ap, sym, refl, subst}
use Rattle.std.proofs.lemmas.Bool.{and_right}
use Rattle.std.specs.Prelude.{ℕ, Option, ◌≡◌, ◌&&◌, not, Bool, true, false}
use Rattle.wait_model.specs.{declared.watches.Aim.Aim}
use Rattle.wait_rule.specs.{Known.Known}
use Rattle.wait_rule.specs.Asked.{Asked, nothing_asked, is_asking}
use Rattle.wait_rule.specs.Says.{AsksNoPage, Debts, Obligation, Excuse, asks_for, excuses, has_duty, no_excuse}
use Rattle.wait_rule.specs.Says.{end_unclosed, has_end, page_asked, told_of, wake_of}
use Rattle.wait_rule.proofs.KnownLaws.AskedPages.{asks_no_page, asks_nothing_of}
use Rattle.wq_head.specs.{Holds.HasLocked, Looks.Looks}
use Rattle.wq_head.proofs.LockWaits.{locked_stays}

-- it is excused of all but that it asks for a page
abbrev all_but_page : Excuse
all_but_page = record {
  wakes = λ c σ. true;
  entries = λ i. true;
  bits = λ c. true;
  asks = false;
  ends = λ k. true;
  left = true;
}

unasked_debts : (k : Known) → asks_for k ≡ nothing_asked → Debts all_but_page k
unasked_debts k none = record { none = by; off = λ q. absurd (cc); shows = λ q. absurd (cc) }
  where
    by : (o : Obligation) → (has_duty k o && not (excuses all_but_page o)) ≡ false
    by (wake_of c σ) = and_right ((told_of k).duty.owes c σ) false refl
    by page_asked = ap (λ (q : Asked). is_asking q && true) none
    by (end_unclosed e) = and_right (has_end e k) false refl

is_none : (a : Bool) → (a && true) ≡ false → a ≡ false
is_none true is = is
is_none false is = refl

-- so of a task that has no such debt
pub debts_unasked : (x : Excuse) (k : Known) → x.asks ≡ false → Debts x k → asks_for k ≡ nothing_asked
debts_unasked x k unasked d = asks_nothing_of (asks_for k) (is_none (is_asking (asks_for k))
    (ap (λ (b : Bool). is_asking (asks_for k) && not b) (sym unasked) ∙ d.none page_asked))

pub stays_unasked : (old new : Known) → ((x : Excuse) → Debts x old → Debts x new) → asks_for old ≡ nothing_asked
    → asks_for new ≡ nothing_asked
stays_unasked old new debts none = debts_unasked all_but_page new refl
    (debts all_but_page (unasked_debts old none))

pub looks_unasked : (old new : Known) → Looks old new → asks_for old ≡ nothing_asked → asks_for new ≡ nothing_asked
looks_unasked old new l = stays_unasked old new l.stays.debts

-- over a lock
pub asks_none : (k : Known) → asks_for k ≡ nothing_asked → AsksNoPage k
asks_none k none d is = subst (λ (o : Obligation). (has_duty k o && not (excuses no_excuse o)) ≡ false) (sym is)
    (ap (λ (q : Asked). is_asking q && true) none)

pub locked_asks : (old new : Known) (head : ℕ) (walk : Option Aim) → HasLocked old new head walk → AsksNoPage old
    → AsksNoPage new
locked_asks old new head walk l none = asks_none new
    (stays_unasked old new (locked_stays old new head walk l).debts (asks_no_page old none))
