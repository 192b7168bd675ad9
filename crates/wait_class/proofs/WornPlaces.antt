-- Where a hold's whole book shows that a place is left at the front, and where it shows that none is.
use Rattle.std.proofs.Common.{◌∙◌, ap, refl, arith}
use Rattle.std.proofs.lemmas.Bool.Decides.{nat_tests}
use Rattle.std.specs.Prelude.{ℕ, zero, suc, ◌≡◌, ◌<◌, ◌≤◌, not, Bool, true, false, nat_lt, if◌then◌else◌}
use Rattle.std.specs.Prelude.{Option, Some, None}
use Rattle.wait_model.specs.{declared.queues.Member.Member, Places.front_for, Places.within}
use Rattle.wait_model.specs.declared.layout.TheConstants.{MEMBERS, PLACES, MIDDLE}
use Rattle.wait_model.specs.Queues.{even_below, rank_at, member_from, place_before, place_for, is_within}
use Rattle.wait_model.specs.declared.queues.Form.TheVariants as forms
use Rattle.wait_model.proofs.QueueLaws.QueueOrder.{IsFirstFrom, first_is}
use Rattle.wait_rule.specs.{Known.Known, Transitions.is_worn}
use Rattle.wait_rule.specs.Queues.{IsLowest, IsFrontPlace, place_by}
use Rattle.wait_rule.specs.Shown.{queue_with, queue_below, shown_queue}
use Rattle.wq_head.specs.Looks.{AreLow}
pub use Rattle.wq_head.proofs.LookingHold.{seen_whole as whole_seen}
use Rattle.wq_head.proofs.{ShownPlaces.front_place_is, AddedEntries.front_after}
use Rattle.wq_head.proofs.ShownQueue.{queue_in_order, queue_has, queue_of}

pub left_within : (low high p : ℕ) → low ≤ p → p < high → not (is_within low high p) ≡ false
left_within low high p up down = let yes : is_within low high p ≡ true = grind (arith, nat_tests) in ap not yes

pub worn_within : (low high q : ℕ) → within low high q ≡ None → not (is_within low high q) ≡ true
worn_within low high q none = by (nat_lt q low) (nat_lt q high) refl refl none
  where
    by : (a b : Bool) → nat_lt q low ≡ a → nat_lt q high ≡ b
        → (if a then None else if b then Some q else None) ≡ None → not (is_within low high q) ≡ true
    by true b x y n = let no : is_within low high q ≡ false = grind (arith, nat_tests) in ap not no
    by false true x y n = absurd (cc)
    by false false x y n = let no : is_within low high q ≡ false = grind (arith, nat_tests) in ap not no

module _ (k : Known) (low : AreLow k MEMBERS) where
  small : (m p : ℕ) → m < MEMBERS → place_by k m ≡ Some p → p < PLACES
  small m p few at = low m few p at

  pub front_is : (p : ℕ) → IsFrontPlace k p → place_for forms.Front (shown_queue k) ≡ p
  front_is p is = front_place_is k small p is

  -- a place is left
  pub front_left : (p : ℕ) → IsFrontPlace k p → is_worn forms.Front (shown_queue k) ≡ false
  front_left p is =
      let a = front_after is.0 p is.2 in
      ap (λ (q : ℕ). not (is_within MIDDLE PLACES q)) (front_is p is) ∙ left_within MIDDLE PLACES p a.middle_on a.small

  -- none is left: the first member from the middle on stands at the lowest place
  first_stands : (l : ℕ) → IsLowest k MEMBERS MIDDLE PLACES (Some l) → (o : Option Member)
      → IsFirstFrom (λ _. true) (rank_at MIDDLE) (shown_queue k) o → place_before o ≡ even_below l
  first_stands l s None h = absurd (
      let at : Member = record { at = s.0.member; place = l } in
      let r = h at (queue_of k at s.0.counts s.0.stands) refl in
      let a = s.0.above in
      omega arith)
  first_stands l s (Some m) h =
      let q = queue_has k m h.0 in
      let c = q.0 in
      let r = h.2 in
      let a = s.0.above in
      let b = s.0.counts in
      let up : MIDDLE ≤ m.place = omega (arith, c, r) in
      let one = s.1 m.place (record {
        member = m.at;
        counts = q.0;
        stands = q.1;
        above = up;
        below = small m.at m.place q.0 q.1;
      }) in
      let at : Member = record { at = s.0.member; place = l } in
      let two = h.3 at (queue_of k at s.0.counts s.0.stands) refl (omega (arith, a)) in
      let same : m.place ≡ l = omega (arith, one, two, b, c) in
      ap even_below same

  pub front_worn : (l : ℕ) → IsLowest k MEMBERS MIDDLE PLACES (Some l) → front_for (Some l) ≡ None
      → is_worn forms.Front (shown_queue k) ≡ true
  front_worn l s none = ap (λ (q : ℕ). not (is_within MIDDLE PLACES q))
      (first_stands l s (member_from (rank_at MIDDLE) (shown_queue k))
      (first_is (λ _. true) (rank_at MIDDLE) (shown_queue k) (queue_in_order k)))
      ∙ worn_within MIDDLE PLACES (even_below l) none

-- where all members have the same places, the queue is the same
below_same : (f g : ℕ → Option ℕ) (n : ℕ) → ((m : ℕ) → m < n → f m ≡ g m) → queue_below f n ≡ queue_below g n
below_same f g zero same = refl
below_same f g (suc n) same = λ j. queue_with n (same n (omega arith) j)
    (below_same f g n (λ m low. same m (omega (arith, low))) j)

pub queue_same : (k j : Known) → ((m : ℕ) → m < MEMBERS → place_by k m ≡ place_by j m)
    → shown_queue k ≡ shown_queue j
unfolding shown_queue
queue_same k j same = below_same (place_by k) (place_by j) MEMBERS same
