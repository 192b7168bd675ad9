-- The first and the last member, with one more.
use Rattle.std.proofs.Common.{◌∙◌, sym, refl, subst, inl, inr, arith}
use Rattle.std.proofs.lemmas.Bool.Decides.{nat_tests}
use Rattle.std.specs.Prelude.{ℕ, ◌≡◌, ◌+◌, ◌<◌, ◌≤◌, ◌⊎◌, Bool, true, false, nat_lt, if◌then◌else◌, Option, Some, None}
use Rattle.wq_head.specs.declared.looks.ShownMember.{ShownMember}
use Rattle.wq_head.specs.Looks.{IsBetween, IsOutermost, IsFirst, IsLast}
use Rattle.wq_head.specs.Looks.{outer, outer_with, first_with, last_with, is_between}

pub below_or : (a b : ℕ) → (a < b) ⊎ (b ≤ a)
below_or a b = by (nat_lt a b) refl
  where
    by : (t : Bool) → nat_lt a b ≡ t → (a < b) ⊎ (b ≤ a)
    by true is = inl (grind (arith, nat_tests))
    by false is = inr (grind (arith, nat_tests))

module _ (old new : ℕ → Option ℕ) (i low high : ℕ) (same : (m : ℕ) → m < i → new m ≡ old m) where
  widen : (s : ShownMember) → IsBetween old i low high s → IsBetween new (i + 1) low high s
  widen s b = record {
    counts = let few = b.counts in omega arith;
    stands = same s.member b.counts ∙ b.stands;
    above = b.above;
    below = b.below;
  }

  back : (s : ShownMember) → IsBetween new (i + 1) low high s → IsBetween old i low high s ⊎ (new i ≡ Some s.place)
  back s b = elim (below_or s.member i) [
    | inl few ↦ inl (record {
      counts = few;
      stands = sym (same s.member few) ∙ b.stands;
      above = b.above;
      below = b.below;
    })
    | inr far ↦ inr (subst (λ (m : ℕ). new m ≡ Some s.place) (let few = b.counts in omega arith) b.stands)
  ]

  here : (p : ℕ) → new i ≡ Some p → is_between low high p ≡ true
      → IsBetween new (i + 1) low high (record { place = p; member = i })
  here p is among = record {
    counts = omega arith;
    stands = is;
    above = grind (arith, nat_tests);
    below = grind (arith, nat_tests);
  }

  some_same : (p q : ℕ) → new i ≡ Some p → new i ≡ Some q → p ≡ q
  some_same p q a b = cc

  outside : (p : ℕ) → new i ≡ Some p → is_between low high p ≡ false → (s : ShownMember)
      → IsBetween new (i + 1) low high s
      → new i ≡ Some s.place → ⊥
  outside p is no_more s b e =
      let q : p ≡ s.place = some_same p s.place is e in
      let lo : low ≤ p = let z = b.above in omega arith in
      let hi : p < high = let z = b.below in omega arith in
      grind (arith, nat_tests)

  -- by an order of places and its test
  module _ (order : ℕ → ℕ → Type 0) (passes : ℕ → ℕ → Bool) (sooner_is : (p q : ℕ) → passes p q ≡ true → order p q)
      (later_is : (p q : ℕ) → passes p q ≡ false → order q p) (alike : (p : ℕ) → order p p)
      (on : (p q r : ℕ) → order p q → order q r → order p r) where
    same_out : (f : Option ShownMember) → IsOutermost order old i low high f
        → ((s : ShownMember) → IsBetween new (i + 1) low high s → new i ≡ Some s.place → ⊥)
        → IsOutermost order new (i + 1) low high f
    same_out None is no_more = λ s b. elim (back s b) [ inl o ↦ is s o | inr e ↦ no_more s b e ]
    same_out (Some t) is no_more = (
      widen t is.0,
      λ s b. elim (back s b) [ inl o ↦ is.1 s o | inr e ↦ absurd (no_more s b e) ],
    )

    out_here : (p : ℕ) → new i ≡ Some p → is_between low high p ≡ true → (f : Option ShownMember)
        → IsOutermost order old i low high f
        → IsOutermost order new (i + 1) low high (outer passes f (record { place = p; member = i }))
    out_here p is among None none = (
      here p is among,
      λ s b. elim (back s b) [
        | inl o ↦ absurd (none s o)
        | inr e ↦ subst (order p) (some_same p s.place is e) (alike p)
      ],
    )
    out_here p is among (Some t) best = by (passes p t.place) refl
      where
        by : (b : Bool) → passes p t.place ≡ b
            → IsOutermost order new (i + 1) low high (if b then Some (record { place = p; member = i }) else Some t)
        by true less = (
          here p is among,
          λ s b. elim (back s b) [
            | inl o ↦ on p t.place s.place (sooner_is p t.place less) (best.1 s o)
            | inr e ↦ subst (order p) (some_same p s.place is e) (alike p)
          ],
        )
        by false more = (
          widen t best.0,
          λ s b. elim (back s b) [
            | inl o ↦ best.1 s o
            | inr e ↦ subst (order t.place) (some_same p s.place is e) (later_is p t.place more)
          ],
        )

    out_more : (f : Option ShownMember) → IsOutermost order old i low high f
        → IsOutermost order new (i + 1) low high (outer_with passes f low high i (new i))
    out_more f is = by (new i) refl
      where
        by_test : (p : ℕ) → new i ≡ Some p → (b : Bool) → is_between low high p ≡ b
            → IsOutermost order new (i + 1) low high (if b then outer passes f
            (record { place = p; member = i }) else f)
        by_test p at true among = out_here p at among f is
        by_test p at false among = same_out f is (outside p at among)

        by : (o : Option ℕ) → new i ≡ o → IsOutermost order new (i + 1) low high (outer_with passes f low high i o)
        by None at = same_out f is (λ s b e. absurd (cc))
        by (Some p) at = by_test p at (is_between low high p) refl

  pub first_more : (f : Option ShownMember) → IsFirst old i low high f
      → IsFirst new (i + 1) low high (first_with f low high i (new i))
  first_more f is = out_more (λ p q. p ≤ q) (λ p q. nat_lt p q) (λ p q t. grind (arith, nat_tests))
      (λ p q t. grind (arith, nat_tests)) (λ p. omega arith) (λ p q r one two. omega (arith, one, two)) f is

  pub last_more : (f : Option ShownMember) → IsLast old i low high f
      → IsLast new (i + 1) low high (last_with f low high i (new i))
  last_more f is = out_more (λ p q. q ≤ p) (λ p q. nat_lt q p) (λ p q t. grind (arith, nat_tests))
      (λ p q t. grind (arith, nat_tests)) (λ p. omega arith) (λ p q r one two. omega (arith, one, two)) f is
