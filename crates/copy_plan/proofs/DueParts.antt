-- Signals of a plan: which are due among the first of them, and how many.
use Rattle.std.proofs.Common.{ap, ◌∙◌, append-nil, length-append, arith}
use Rattle.std.proofs.lemmas.List.{take_more, length-take-le}
use Rattle.std.specs.Prelude.{ℕ, ◌≡◌, ◌≤◌, ◌<◌, ◌+◌, ◌++◌, ◌&&◌, Bool, true, false, if◌then◌else◌, nat_le, List, []}
use Rattle.std.specs.Prelude.{◌∷◌, length, take, get_or, refl}
use Rattle.std.proofs.lemmas.Bool.Decides.{nat_tests}
use Rattle.copy_plan.specs.declared.plan.Planned.{Planned}
use Rattle.copy_plan.specs.Plans.{due_in, fatal_of, up_to}
use Rattle.copy_plan.proofs.Dues.{one_if}

joined_if : {A : Type 0} (b : Bool) (x : A) (zs xs ys : List A) → zs ≡ xs ++ ys
    → (if b then x ∷ zs else zs) ≡ (if b then x ∷ xs else xs) ++ ys
joined_if true x zs xs ys e = ap (λ l. x ∷ l) e
joined_if false x zs xs ys e = e

most_if : {A : Type 0} (b : Bool) (x : A) (xs : List A) (n : ℕ) → length xs ≤ n
    → length (if b then x ∷ xs else xs) ≤ n + 1
most_if true x xs n e = omega arith
most_if false x xs n e = omega arith

module _ (from to : ℕ) where
  due_append : (xs ys : List Planned) → due_in from to (xs ++ ys) ≡ due_in from to xs ++ due_in from to ys
  due_append [] ys = refl
  due_append (x ∷ xs) ys = joined_if (nat_le from x.offset && nat_le x.offset to) x (due_in from to (xs ++ ys))
      (due_in from to xs) (due_in from to ys) (due_append xs ys)

  due_one : (p : Planned) → from ≤ p.offset → p.offset ≤ to → due_in from to (p ∷ []) ≡ p ∷ []
  due_one p low high =
      let one : nat_le from p.offset ≡ true = grind (arith, nat_tests) in
      let two : nat_le p.offset to ≡ true = grind (arith, nat_tests) in
      ap (λ (b : Bool). if b && nat_le p.offset to then p ∷ [] else []) one
      ∙ ap (λ (b : Bool). if b then p ∷ [] else []) two

  due_before : (p : Planned) → p.offset < from → due_in from to (p ∷ []) ≡ []
  due_before p low =
      let one : nat_le from p.offset ≡ false = grind (arith, nat_tests) in
      ap (λ (b : Bool). if b && nat_le p.offset to then p ∷ [] else []) one

  due_behind : (p : Planned) → to < p.offset → due_in from to (p ∷ []) ≡ []
  due_behind p high = by (nat_le from p.offset)
    where
      by : (b : Bool) → (if b && nat_le p.offset to then p ∷ [] else []) ≡ []
      by false = refl
      by true =
          let two : nat_le p.offset to ≡ false = grind (arith, nat_tests) in
          ap (λ (b : Bool). if b then p ∷ [] else []) two

  module _ (ps : List Planned) (i : ℕ) (p : Planned) (more : take (i + 1) ps ≡ take i ps ++ p ∷ []) where
    due_more : due_in from to (take (i + 1) ps) ≡ due_in from to (take i ps) ++ due_in from to (p ∷ [])
    due_more = ap (due_in from to) more ∙ due_append (take i ps) (p ∷ [])

    pub due_taken : from ≤ p.offset → p.offset ≤ to
        → due_in from to (take (i + 1) ps) ≡ due_in from to (take i ps) ++ p ∷ []
    due_taken low high = due_more ∙ ap (λ l. due_in from to (take i ps) ++ l) (due_one p low high)

    pub due_passed_before : p.offset < from → due_in from to (take (i + 1) ps) ≡ due_in from to (take i ps)
    due_passed_before low = due_more ∙ (ap (λ l. due_in from to (take i ps) ++ l) (due_before p low)
        ∙ append-nil (due_in from to (take i ps)))

    pub due_passed_behind : to < p.offset → due_in from to (take (i + 1) ps) ≡ due_in from to (take i ps)
    due_passed_behind high = due_more ∙ (ap (λ l. due_in from to (take i ps) ++ l) (due_behind p high)
        ∙ append-nil (due_in from to (take i ps)))

-- as many are due as there are, at most, and as many of these are fatal
pub due_length : (from to : ℕ) (ps : List Planned) → length (due_in from to ps) ≤ length ps
due_length from to [] = omega arith
due_length from to (p ∷ ps) =
    let e = most_if (nat_le from p.offset && nat_le p.offset to) p (due_in from to ps) (length ps)
    (due_length from to ps) in
    omega arith

pub fatal_length : (ps : List Planned) → length (fatal_of ps) ≤ length ps
fatal_length [] = omega arith
fatal_length (p ∷ ps) = let e = most_if p.fatal p (fatal_of ps) (length ps) (fatal_length ps) in omega arith

pub fatal_append : (xs ys : List Planned) → fatal_of (xs ++ ys) ≡ fatal_of xs ++ fatal_of ys
fatal_append [] ys = refl
fatal_append (x ∷ xs) ys = joined_if x.fatal x (fatal_of (xs ++ ys)) (fatal_of xs) (fatal_of ys) (fatal_append xs ys)

one_fatal : (p : Planned) (b : Bool) → p.fatal ≡ b → length (fatal_of (p ∷ [])) ≡ one_if b
one_fatal p true is = ap (λ (b : Bool). length (if b then p ∷ [] else [])) is
one_fatal p false is = ap (λ (b : Bool). length (if b then p ∷ [] else [])) is

-- one signal of the plan more: it is counted, or not
module _ (ps : List Planned) (i : ℕ) (d : Planned) (within : i < length ps) where
  abbrev p : Planned
  p = get_or ps i d

  more : take (i + 1) ps ≡ take i ps ++ p ∷ []
  more = take_more ps i d within

  module _ (to : ℕ) where
    abbrev was : List Planned
    was = up_to to (take i ps)

    abbrev now : List Planned
    now = up_to to (take (i + 1) ps)

    counted_due : p.offset ≤ to → now ≡ was ++ p ∷ []
    counted_due high = due_taken 0 to ps i p more (omega arith) high

    pub due_sent : p.offset ≤ to → length now ≡ length was + 1
    due_sent high = ap length (counted_due high) ∙ length-append was (p ∷ [])

    pub due_kills : (b : Bool) → p.offset ≤ to → p.fatal ≡ b
        → length (fatal_of now) ≡ length (fatal_of was) + one_if b
    due_kills b high is = ap (λ l. length (fatal_of l)) (counted_due high)
        ∙ (ap length (fatal_append was (p ∷ [])) ∙ (length-append (fatal_of was) (fatal_of (p ∷ []))
        ∙ ap (λ (n : ℕ). length (fatal_of was) + n) (one_fatal p b is)))

    pub due_passed : to < p.offset → now ≡ was
    due_passed high = due_passed_behind 0 to ps i p more high

-- as many as there were in the first part of the plan
pub few_sent : (ps : List Planned) (i to : ℕ) → i < length ps → length (up_to to (take i ps)) ≤ i
few_sent ps i to within =
    let e = due_length 0 to (take i ps) in let f = length-take-le i ps (omega arith) in omega arith

pub few_kills : (ps : List Planned) (i to : ℕ) → i < length ps → length (fatal_of (up_to to (take i ps))) ≤ i
few_kills ps i to within =
    let e = few_sent ps i to within in let f = fatal_length (up_to to (take i ps)) in omega arith
