-- The first and the last of the members that a hold has seen, with one more and with those that are none.
use Rattle.std.proofs.Common.{◌∙◌, ap, sym, subst, inl, inr, arith}
use Rattle.std.specs.Prelude.{ℕ, ◌≡◌, ◌<◌, ◌≤◌, ◌+◌, true, Option, Some, None}
use Rattle.wait_rule.specs.{Known.Known, Says.told_of, Says.noted, Queues.place_by}
use Rattle.wq_head.specs.{declared.looks.ShownMember.ShownMember, Looking.IsClear, Members.IsShownMember}
use Rattle.wq_head.specs.Looks.{Looks, IsLow, is_seen_member, IsBetween, IsOutermost, IsFirst, IsLast, IsSurveyed}
use Rattle.wq_head.specs.Looks.{first_with, last_with}
use Rattle.wq_head.proofs.FirstAndLast.{below_or, first_more, last_more}
use Rattle.wq_head.proofs.MemberStands.{stands_on}

-- the outermost of some members stays that where no other one comes in
module _ (old new : ℕ → Option ℕ) (i j low high : ℕ) (few : i ≤ j) (same : (m : ℕ) → m < i → new m ≡ old m)
    (none : (m : ℕ) → i ≤ m → m < j → new m ≡ None) where
  widen : (s : ShownMember) → IsBetween old i low high s → IsBetween new j low high s
  widen s b = record {
    counts = let under = b.counts in omega arith;
    stands = same s.member b.counts ∙ b.stands;
    above = b.above;
    below = b.below;
  }

  back : (s : ShownMember) → IsBetween new j low high s → IsBetween old i low high s
  back s b = elim (below_or s.member i) [
    | inl under ↦ record {
      counts = under;
      stands = sym (same s.member under) ∙ b.stands;
      above = b.above;
      below = b.below;
    }
    | inr over ↦
        let at : new s.member ≡ None = none s.member over b.counts in
        let is : new s.member ≡ Some s.place = b.stands in
        absurd (cc)
  ]

  pub out_on : (order : ℕ → ℕ → Type 0) (f : Option ShownMember) → IsOutermost order old i low high f
      → IsOutermost order new j low high f
  out_on order None is = λ s b. is s (back s b)
  out_on order (Some t) is = (widen t is.0, λ s b. is.1 s (back s b))

-- a hold that has seen more, of which none is a member
pub surveyed_on : (old new : Known) → Looks old new → (i j low high : ℕ) (first last : Option ShownMember) → i ≤ j
    → ((m : ℕ) → i ≤ m → m < j → IsClear new m) → IsSurveyed old i low high first last
    → IsSurveyed new j low high first last
surveyed_on old new l i j low high first last few clear s = record {
  seen = λ m under. elim (below_or m i) [
    | inl before ↦ l.from.still m (s.seen m before)
    | inr over ↦ (clear m over under).seen
  ];
  below = λ m under. elim (below_or m i) [
    | inl before ↦ subst IsLow (sym (same m before)) (s.below m before)
    | inr over ↦ λ p is. let none : place_by new m ≡ None = (clear m over under).none in absurd (cc)
  ];
  stands = λ m under. elim (below_or m i) [
    | inl before ↦ stands_on old new l m (s.seen m before) (s.stands m before)
    | inr over ↦ (clear m over under).stands
  ];
  first = out_on (place_by old) (place_by new) i j low high few same none (λ p q. p ≤ q) first s.first;
  last = out_on (place_by old) (place_by new) i j low high few same none (λ p q. q ≤ p) last s.last;
}
  where
    same : (m : ℕ) → m < i → place_by new m ≡ place_by old m
    same m before = l.from.places m (s.seen m before)

    none : (m : ℕ) → i ≤ m → m < j → place_by new m ≡ None
    none m over under = (clear m over under).none

-- one that has looked at one member more
module _ (old new : Known) (l : Looks old new) (j low high : ℕ) (first last : Option ShownMember)
    (s : IsSurveyed old j low high first last) (at : Option ℕ) (is : at ≡ place_by new j) where
  same : (m : ℕ) → m < j → place_by new m ≡ place_by old m
  same m few = l.from.places m (s.seen m few)

  pub surveyed_more : is_seen_member (told_of new) (noted new) j ≡ true → IsLow at → IsShownMember new j
      → IsSurveyed new (j + 1) low high (first_with first low high j at) (last_with last low high j at)
  surveyed_more seen low_at here = record {
    seen = λ m few. elim (below_or m j) [
      | inl under ↦ l.from.still m (s.seen m under)
      | inr over ↦ subst (λ (y : ℕ). is_seen_member (told_of new) (noted new) y ≡ true) (omega arith) seen
    ];
    below = λ m few. elim (below_or m j) [
      | inl under ↦ subst IsLow (sym (same m under)) (s.below m under)
      | inr over ↦ subst (λ (y : ℕ). IsLow (place_by new y)) (omega arith) (subst IsLow is low_at)
    ];
    stands = λ m few. elim (below_or m j) [
      | inl under ↦ stands_on old new l m (s.seen m under) (s.stands m under)
      | inr over ↦ subst (IsShownMember new) (omega arith) here
    ];
    first = subst (IsFirst (place_by new) (j + 1) low high) (sym (ap (first_with first low high j) is))
        (first_more (place_by old) (place_by new) j low high same first s.first);
    last = subst (IsLast (place_by new) (j + 1) low high) (sym (ap (last_with last low high j) is))
        (last_more (place_by old) (place_by new) j low high same last s.last);
  }
