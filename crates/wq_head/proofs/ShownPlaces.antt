-- The place that an add takes by the members that a hold shows is the one that its form takes by their queue.
use Rattle.std.proofs.Common.{◌∙◌, ap, refl, arith}
use Rattle.std.specs.Prelude.{ℕ, ◌≡◌, ◌<◌, ◌≤◌, Bool, true, false, nat_lt, if◌then◌else◌, Option, Some, None}
use Rattle.wait_model.specs.declared.layout.TheConstants.{MEMBERS, PLACES, MIDDLE, FIRST_PLACE}
use Rattle.wait_model.specs.declared.queues.Member.{Member}
use Rattle.wait_model.specs.declared.queues.Form.TheVariants as forms
use Rattle.wait_model.specs.Queues.{even_below, even_above, rank_at, member_from, last_within, place_before}
use Rattle.wait_model.specs.Queues.{place_behind, place_for, IsIn}
use Rattle.wait_model.specs.Places.{within, front_for, tail_for}
use Rattle.wait_model.proofs.QueueLaws.QueueOrder.{IsFirstFrom, first_is}
use Rattle.wait_model.proofs.QueueLaws.QueueEnds.{IsLastWithin, last_of}
use Rattle.wait_rule.specs.{Known.Known, Shown.shown_queue}
use Rattle.wait_rule.specs.Queues.{StandsIn, IsLowest, IsHighest, IsFrontPlace, IsTailPlace, place_by}
use Rattle.wq_head.proofs.ShownQueue.{queue_in_order, queue_has, queue_of}

pub within_is : (a b q p : ℕ) → within a b q ≡ Some p → q ≡ p
within_is a b q p is = by (nat_lt q a) (nat_lt q b) is
  where
    by : (s t : Bool) → (if s then None else if t then Some q else None) ≡ Some p → q ≡ p
    by true t at = absurd (cc)
    by false true at = cc
    by false false at = absurd (cc)

module _ (k : Known) (small : (m p : ℕ) → m < MEMBERS → place_by k m ≡ Some p → p < PLACES) where
  stands_of : (m : Member) → IsIn m (shown_queue k) → MIDDLE ≤ m.place → StandsIn k MEMBERS MIDDLE PLACES m.place
  stands_of m i above = let h = queue_has k m i in record {
    member = m.at;
    counts = h.0;
    stands = h.1;
    above = above;
    below = small m.at m.place h.0 h.1;
  }

  -- the member that stands there
  abbrev at_place : (p : ℕ) → StandsIn k MEMBERS MIDDLE PLACES p → Member
  at_place p s = record { at = s.member; place = p }

  is_in : (p : ℕ) (s : StandsIn k MEMBERS MIDDLE PLACES p) → IsIn (at_place p s) (shown_queue k)
  is_in p s = queue_of k (at_place p s) s.counts s.stands

  front_by : (lowest : Option ℕ) → IsLowest k MEMBERS MIDDLE PLACES lowest → (o : Option Member)
      → IsFirstFrom (λ _. true) (rank_at MIDDLE) (shown_queue k) o → (p : ℕ) → front_for lowest ≡ Some p
      → place_before o ≡ p
  front_by None none None h p at = cc
  front_by None none (Some m) h p at = absurd (none m.place (stands_of m h.0
      (let r = h.2 in let c = (queue_has k m h.0).0 in omega arith)))
  front_by (Some l) s None h p at = absurd (let r = h (at_place l s.0) (is_in l s.0) refl in let a = s.0.above in
      omega arith)
  front_by (Some l) s (Some m) h p at =
      let c = (queue_has k m h.0).0 in
      let r = h.2 in
      let a = s.0.above in
      let b = s.0.counts in
      let up : MIDDLE ≤ m.place = omega (arith, c, r) in
      let one = s.1 m.place (stands_of m h.0 up) in
      let two = h.3 (at_place l s.0) (is_in l s.0) refl (omega (arith, a)) in
      let same : m.place ≡ l = omega (arith, one, two, b, c) in
      ap even_below same ∙ within_is MIDDLE PLACES (even_below l) p at

  pub front_place_is : (p : ℕ) → IsFrontPlace k p → place_for forms.Front (shown_queue k) ≡ p
  front_place_is p is = front_by is.0 is.1 (member_from (rank_at MIDDLE) (shown_queue k))
      (first_is (λ _. true) (rank_at MIDDLE) (shown_queue k) (queue_in_order k)) p is.2

  tail_by : (highest : Option ℕ) → IsHighest k MEMBERS MIDDLE PLACES highest → (o : Option Member)
      → IsLastWithin MIDDLE PLACES (shown_queue k) o → (p : ℕ) → tail_for highest ≡ Some p
      → place_behind FIRST_PLACE o ≡ p
  tail_by None none None h p at = cc
  tail_by None none (Some m) h p at = absurd (none m.place (stands_of m h.0 h.1))
  tail_by (Some l) s None h p at = absurd (h (at_place l s.0) (is_in l s.0) s.0.above s.0.below)
  tail_by (Some l) s (Some m) h p at =
      let c = (queue_has k m h.0).0 in
      let b = s.0.counts in
      let one = s.1 m.place (stands_of m h.0 h.1) in
      let two = h.3 (at_place l s.0) (is_in l s.0) s.0.above s.0.below in
      let same : m.place ≡ l = omega (arith, one, two, b, c) in
      ap even_above same ∙ within_is MIDDLE PLACES (even_above l) p at

  pub tail_place_is : (p : ℕ) → IsTailPlace k p → place_for forms.Tail (shown_queue k) ≡ p
  tail_place_is p is = tail_by is.0 is.1 (last_within MIDDLE PLACES (shown_queue k))
      (last_of MIDDLE PLACES (shown_queue k) (queue_in_order k)) p is.2
