-- The list of the members that a hold has seen, in the order of their numbers, with one more and with those that are
-- none.
use Rattle.std.proofs.Common.{◌∙◌, ap, sym, refl, subst, inl, inr, arith, length-append, ◌-◌}
use Rattle.std.proofs.Math.ListN.{set, length-set}
use Rattle.std.proofs.lemmas.Grind.{get_or-set_at}
use Rattle.std.proofs.lemmas.List.{get_or-set_other}
use Rattle.std.specs.Prelude.{ℕ, zero, suc, ◌≡◌, ◌<◌, ◌≤◌, ◌+◌, true, Option, Some, None, List, [], ◌∷◌, ◌++◌}
use Rattle.std.specs.Prelude.{length, slice_index}
use Rattle.wait_model.specs.declared.layout.TheConstants.{MEMBERS}
use Rattle.wait_rule.specs.{Known.Known, Says.told_of, Says.noted, Queues.place_by}
use Rattle.wq_head.specs.Looks.{Looks, AreSeen, is_seen_member}
use Rattle.wq_head.specs.Looking.{AreNone}
use Rattle.wq_head.specs.Members.{AreStanding, IsShownMember, IsWordOf}
use Rattle.wq_head.proofs.{FirstAndLast.below_or, MemberStands.stands_on, MemberStands.word_on}

-- the numbers of those that stand
abbrev pub numbers_with : ℕ → Option ℕ → List ℕ → List ℕ
numbers_with m None ms = ms
numbers_with m (Some p) ms = ms ++ m ∷ []

abbrev pub numbers_below : (ℕ → Option ℕ) → ℕ → List ℕ
numbers_below at zero = []
numbers_below at (suc n) = numbers_with n (at n) (numbers_below at n)

-- they are those of the first n members, and each one's word is what the hold shows of it
pub record AreListed (k : Known) (n : ℕ) (ms words : List ℕ) : Type 0 where
  pub whole : length words ≡ MEMBERS
  pub seen : AreSeen k n
  pub stands : AreStanding k n
  pub numbers : ms ≡ numbers_below (place_by k) n
  pub shows : (m p : ℕ) → m < n → place_by k m ≡ Some p → IsWordOf k m (slice_index words m) p

pub numbers_same : (old new : ℕ → Option ℕ) (n : ℕ) → ((m : ℕ) → m < n → new m ≡ old m)
    → numbers_below new n ≡ numbers_below old n
numbers_same old new zero same = refl
numbers_same old new (suc n) same = λ i. numbers_with n (same n (let l : n < suc n = omega arith in l) i)
    (numbers_same old new n (λ m few. same m (omega arith)) i)

numbers_none : (at : ℕ → Option ℕ) (n : ℕ) → at n ≡ None → numbers_below at (suc n) ≡ numbers_below at n
numbers_none at n none = ap (λ (o : Option ℕ). numbers_with n o (numbers_below at n)) none

-- there are no more than that
numbers_few_by : (m n : ℕ) (o : Option ℕ) (ms : List ℕ) → length ms ≤ n → length (numbers_with m o ms) ≤ n + 1
numbers_few_by m n None ms few = omega arith
numbers_few_by m n (Some p) ms few = simp length-append (omega arith)

pub numbers_few : (at : ℕ → Option ℕ) (n : ℕ) → length (numbers_below at n) ≤ n
numbers_few at zero = omega arith
numbers_few at (suc n) = let few = numbers_few_by n n (at n) (numbers_below at n) (numbers_few at n) in omega
    (arith, few)

-- a hold that has seen more of what it has seen
module _ (old new : Known) (l : Looks old new) (n : ℕ) (ms words : List ℕ) (s : AreListed old n ms words) where
  pub listed_later : AreListed new n ms words
  listed_later = record {
    whole = s.whole;
    seen = λ m few. l.from.still m (s.seen m few);
    stands = λ m few. stands_on old new l m (s.seen m few) (s.stands m few);
    numbers = s.numbers ∙ sym (numbers_same (place_by old) (place_by new) n
        (λ m few. l.from.places m (s.seen m few)));
    shows = λ m p few is. word_on old new l m (slice_index words m) p (s.seen m few)
        (s.shows m p few (sym (l.from.places m (s.seen m few)) ∙ is));
  }

-- one that has seen more, of which none is a member
none_more : (k : Known) (n m : ℕ) → AreNone k n (n + m) → numbers_below (place_by k) (n + m) ≡ numbers_below
    (place_by k) n
none_more k n zero none = ap (numbers_below (place_by k)) (let e : n + 0 ≡ n = omega arith in e)
none_more k n (suc m) none = ap (numbers_below (place_by k)) (let e : n + suc m ≡ suc (n + m) = omega arith in e)
    ∙ numbers_none (place_by k) (n + m) (none (n + m) (omega arith) (omega arith)).none
    ∙ none_more k n m (λ x over under. none x over (omega arith))

pub listed_on : (k : Known) (n m : ℕ) (ms words : List ℕ) → n ≤ m → AreNone k n m → AreListed k n ms words
    → AreListed k m ms words
listed_on k n m ms words few none s = record {
  whole = s.whole;
  seen = λ x under. elim (below_or x n) [ inl before ↦ s.seen x before | inr over ↦ (none x over under).seen ];
  stands = λ x under. elim (below_or x n) [ inl before ↦ s.stands x before | inr over ↦ (none x over under).stands ];
  numbers = s.numbers ∙ sym (subst (λ (j : ℕ). AreNone k n j
      → numbers_below (place_by k) j ≡ numbers_below (place_by k) n) (omega arith) (none_more k n (m - n)) none);
  shows = λ x p under is. elim (below_or x n) [
    | inl before ↦ s.shows x p before is
    | inr over ↦ let gone : place_by k x ≡ None = (none x over under).none in absurd (cc)
  ];
}

-- one that has seen one member more, which stands
pub listed_more : (k : Known) (n p word : ℕ) (ms words : List ℕ) → n < MEMBERS → AreListed k n ms words
    → place_by k n ≡ Some p → is_seen_member (told_of k) (noted k) n ≡ true → IsShownMember k n → IsWordOf k n word p
    → AreListed k (n + 1) (ms ++ n ∷ []) (set words n word)
listed_more k n p word ms words small s at seen stands reads = record {
  whole = length-set words n word ∙ s.whole;
  seen = λ m few. elim (below_or m n) [
    | inl under ↦ s.seen m under
    | inr over ↦ subst (λ (y : ℕ). is_seen_member (told_of k) (noted k) y ≡ true) (omega arith) seen
  ];
  stands = λ m few. elim (below_or m n) [
    | inl under ↦ s.stands m under
    | inr over ↦ subst (IsShownMember k) (omega arith) stands
  ];
  numbers = ap (λ (xs : List ℕ). xs ++ n ∷ []) s.numbers
      ∙ (sym (ap (λ (o : Option ℕ). numbers_with n o (numbers_below (place_by k) n)) at)
      ∙ ap (numbers_below (place_by k)) (let e : suc n ≡ n + 1 = omega arith in e));
  shows = λ m q few is. elim (below_or m n) [
    | inl under ↦ subst (λ (w : ℕ). IsWordOf k m w q) (sym (get_or-set_other words n m word 0 (λ e. omega arith)))
        (s.shows m q under is)
    | inr over ↦
        let same : m ≡ n = omega arith in
        let one : place_by k m ≡ Some p = ap (place_by k) same ∙ at in
        let q_is : p ≡ q = cc in
        subst (λ (w : ℕ). IsWordOf k m w q) (sym (get_or-set_at words n m word 0 same (omega (arith, s.whole, small))))
        (subst (λ (y : ℕ). IsWordOf k y word q) (sym same) (subst (IsWordOf k n word) q_is reads))
  ];
}
