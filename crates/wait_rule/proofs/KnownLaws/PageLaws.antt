-- The laws of pages that are handed over, by the rule.
use Rattle.std.proofs.Common.{refl, sym, ◌∙◌, ap, inl, inr}
use Rattle.std.specs.Prelude.{ℕ, ◌≡◌, Option, Some}
use Rattle.wait_model.specs.{Words.bit_at, Words.entry_of, BitKeepers.HoldsBit}
use Rattle.wait_model.specs.Watches.{head_of, owner, page}
use Rattle.wait_rule.specs.{MemberWords.all_differences, Asked.all_asked, Pages.IsAskedAt, Pages.IsPageState}
use Rattle.wait_rule.specs.PageLaws.{IsHandedWhole, RuleTakesForWaiters, RuleHandsWhole, RuleLeavesNone, WorkedPages}
use Rattle.wait_rule.proofs.{KnownLaws.PageStates.none_some, KnownLaws.PageSteps.not_both}
use Rattle.wait_rule.proofs.KnownLaws.StandingKinds.{asks_none}

same_page : (p q : ℕ) → ◌≡◌ {A = Option ℕ} (Some p) (Some q) → p ≡ q
same_page p q e = cc

pub takes_for_waiters : RuleTakesForWaiters
takes_for_waiters s items r x p taken = record {
  asked = by (r.pages.each x);
  holds = held;
  alone = λ a holds. r.whole.bits.one a (owner x) p 0 holds held;
}
  where
    held : HoldsBit s (owner x) p 0
    held = inr (record { at = x; own = refl; taken = taken; first = refl })

    for : (q : ℕ) → s.taken x ≡ Some q → IsAskedAt x q (all_asked items (owner x))
        → IsAskedAt x p (all_asked items (owner x))
    for q is (inl w) = inl (w ∙ (sym is ∙ taken))
    for q is (inr g) = inr (g ∙ (sym is ∙ taken))

    by : IsPageState s (all_differences items) (all_asked items) x → IsAskedAt x p (all_asked items (owner x))
    by (inl i) = none_some p (sym i.taken ∙ taken)
    by (inr (inl i)) = none_some p (sym i.1.taken ∙ taken)
    by (inr (inr (inl i))) = for i.0 i.2.taken i.2.asked
    by (inr (inr (inr i))) = for i.0 i.1.taken (elim i.1.asked [ inl w ↦ inl w.0 | inr g ↦ inr g ])

pub hands_whole : RuleHandsWhole
hands_whole s items r x p taken free = by (r.pages.each x)
  where
    by : IsPageState s (all_differences items) (all_asked items) x → IsHandedWhole s x
    by (inl i) = none_some p (sym i.taken ∙ taken)
    by (inr (inl i)) = none_some p (sym i.1.taken ∙ taken)
    by (inr (inr (inl i))) =
        let one : i.0 ≡ p = same_page i.0 p (sym i.2.taken ∙ taken) in
        not_both (s.holder (head_of (page p)))
        ((r.whole.kept.facts.views i.1).hold.held (head_of (page p))
        (i.2.held ∙ ap (λ (q : ℕ). Some (head_of (page q))) one)) free
    by (inr (inr (inr i))) = record { done = i.1.done; off = i.1.off }

pub leaves_none : RuleLeavesNone
leaves_none s items r t x none mine =
    let n = asks_none s items r t none in
    record { taken = n.taken x mine; pageless = λ e is. n.none x e mine is }

pub worked_pages : WorkedPages
unfolding entry_of bit_at
worked_pages = record {
  waits = refl;
  given = refl;
  noted = refl;
  left = refl;
  taken = refl;
  set = refl;
  told = refl;
  off = refl;
}
