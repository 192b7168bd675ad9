-- What a step of one seat does to the state that is seen.
use Rattle.std.proofs.Common.{◌≡◌, ℕ, zero, suc, ◌+◌, ◌≤◌, ◌≢◌, cond, eqb, ◌&&◌, Bool, true, false, List, [], ◌∷◌, ◌++◌}
use Rattle.std.proofs.Common.{set, refl, sym, ap, ◌∙◌, arith, eq-eqb, ne_eqb, append-nil}
use mathlib.Core.Logic.{dite}
use mathlib.Core.Option.{some, some-injective, some-ne-none}
use lib.ListN.{get_elem?}
use native.Mathlib.Decide.{ℕ_discrete}
use Rattle.wait_model.specs.{Functions.put, Words.flag}
use Rattle.wait_model.proofs.Functions.{put_same, put_other}
use Rattle.wait_rule.specs.{declared.journal.Item.Item, declared.journal.Part.Part, declared.journal.Journal.Journal}
use Rattle.wait_rule.specs.Journals.{times_in, owns, sum_over, items_in, has_of, list_of, seen_as, moved, pushed}

pub total_set : (f : Journal → ℕ) (views : List Journal) (i : ℕ) (v w : Journal) → get_elem? views i ≡ some v
    → sum_over f (set views i w) + f v ≡ sum_over f views + f w
total_set f [] i v w at = absurd (some-ne-none v (sym at))
total_set f (x ∷ xs) zero v w at = let e : f x ≡ f v = ap f (some-injective x v at) in omega arith
total_set f (x ∷ xs) (suc i) v w at = let r = total_set f xs i v w at in omega arith

pub total_at : (f : Journal → ℕ) (views : List Journal) (i : ℕ) (v : Journal) → get_elem? views i ≡ some v
    → f v ≤ sum_over f views
total_at f [] i v at = absurd (some-ne-none v (sym at))
total_at f (x ∷ xs) zero v at = let e : f x ≡ f v = ap f (some-injective x v at) in omega arith
total_at f (x ∷ xs) (suc i) v at = let r = total_at f xs i v at in omega arith

pub set_at : (views : List Journal) (i : ℕ) (v w : Journal) → get_elem? views i ≡ some v
    → get_elem? (set views i w) i ≡ some w
set_at [] i v w at = absurd (some-ne-none v (sym at))
set_at (x ∷ xs) zero v w at = refl
set_at (x ∷ xs) (suc i) v w at = set_at xs i v w at

pub list_set : (t : ℕ) (views : List Journal) (i : ℕ) (v w : Journal) → get_elem? views i ≡ some v
    → has_of t w ≡ has_of t v
    → list_of t (set views i w) ≡ list_of t views
list_set t [] i v w at same = refl
list_set t (x ∷ xs) zero v w at same = ap (λ l. l ++ list_of t xs) (same ∙ ap (has_of t) (sym (some-injective x v at)))
list_set t (x ∷ xs) (suc i) v w at same = ap (λ l. has_of t x ++ l) (list_set t xs i v w at same)

pub none_in : (t : ℕ) (ps : List Part) → times_in t ps ≡ 0 → items_in t ps ≡ []
none_in t [] none = refl
none_in t (p ∷ ps) none = by_test (eqb p.number t) refl (none_in t ps (omega arith))
  where
    by_test : (b : Bool) → eqb p.number t ≡ b → items_in t ps ≡ [] → cond b p.items [] ++ items_in t ps ≡ []
    by_test true is rest = let k : flag (eqb p.number t) ≡ 1 = ap flag is in absurd (omega arith)
    by_test false is rest = rest

pub has_none : (t : ℕ) (v : Journal) → owns t v ≡ 0 → has_of t v ≡ []
has_none t v none = by_test (v.lives && eqb v.number t) refl
  where
    by_test : (b : Bool) → (v.lives && eqb v.number t) ≡ b → cond b v.items [] ++ items_in t v.joined ≡ []
    by_test true is = let k : flag (v.lives && eqb v.number t) ≡ 1 = ap flag is in absurd (omega arith)
    by_test false is = none_in t v.joined (omega arith)

pub list_none : (t : ℕ) (views : List Journal) → sum_over (owns t) views ≡ 0 → list_of t views ≡ []
list_none t [] none = refl
list_none t (v ∷ vs) none = λ i. (has_none t v (omega arith) i) ++ (list_none t vs (omega arith) i)

-- the trail of a number stands with the one journal that owns it
pub list_sole : (t : ℕ) (views : List Journal) (i : ℕ) (v : Journal) → get_elem? views i ≡ some v
    → sum_over (owns t) views ≤ 1
    → 1 ≤ owns t v → list_of t views ≡ has_of t v
list_sole t [] i v at sole mine = absurd (some-ne-none v (sym at))
list_sole t (x ∷ xs) zero v at sole mine =
    let e : x ≡ v = some-injective x v at in
    let k : owns t x ≡ owns t v = ap (owns t) e in
    ap (λ l. has_of t x ++ l) (list_none t xs (omega arith)) ∙ (append-nil (has_of t x) ∙ ap (has_of t) e)
list_sole t (x ∷ xs) (suc i) v at sole mine =
    let k : owns t v ≤ sum_over (owns t) xs = total_at (owns t) xs i v at in
    ap (λ l. l ++ list_of t xs) (has_none t x (omega arith)) ∙ list_sole t xs i v at (omega arith) mine

module _ (v : Journal) (lives : v.lives ≡ true) where
  own_test : (v.lives && eqb v.number v.number) ≡ true
  own_test = ap (λ b. b && eqb v.number v.number) lives ∙ eq-eqb v.number v.number refl

  pub owns_own : 1 ≤ owns v.number v
  owns_own = let k : flag (v.lives && eqb v.number v.number) ≡ 1 = ap flag own_test in omega arith

  pub has_own : owns v.number v ≤ 1 → has_of v.number v ≡ v.items
  has_own sole =
      let k : flag (v.lives && eqb v.number v.number) ≡ 1 = ap flag own_test in
      let none : items_in v.number v.joined ≡ [] = none_in v.number v.joined (omega arith) in
      (λ i. cond (own_test i) v.items [] ++ none i) ∙ append-nil v.items

  pub has_else : (t : ℕ) (xs : List Item) → t ≢ v.number → has_of t (pushed v xs) ≡ has_of t v
  has_else t xs apart =
      let no : (v.lives && eqb v.number t) ≡ false = ap (λ b. b && eqb v.number t) lives
      ∙ ne_eqb v.number t (λ k. apart (sym k)) in
      ap (λ b. cond b (v.items ++ xs) [] ++ items_in t v.joined) no ∙ sym
      (ap (λ b. cond b v.items [] ++ items_in t v.joined) no)

-- the one generic fact: a step of a seat on a word is a move of the state that is seen
module _ (words : List ℕ) (views : List Journal) (id p n : ℕ) (v : Journal) (xs : List Item) where
  pub list_own : get_elem? views id ≡ some v → v.lives ≡ true → sum_over (owns v.number) views ≤ 1
      → list_of v.number views ≡ v.items
  list_own at lives sole =
      let k : owns v.number v ≤ sum_over (owns v.number) views = total_at (owns v.number) views id v at in
      list_sole v.number views id v at sole (owns_own v lives) ∙ has_own v lives (omega arith)

  pub seen_step : get_elem? views id ≡ some v → v.lives ≡ true → ((t : ℕ) → sum_over (owns t) views ≤ 1)
      → seen_as (set words p n) (set views id (pushed v xs)) ≡ moved (seen_as words views) v.number p n xs
  seen_step at lives sole = λ i. record { words = set words p n; items = λ t. by_list t i }
    where
      after : (t : ℕ) → sum_over (owns t) (set views id (pushed v xs)) ≤ 1
      after t =
          let k : sum_over (owns t) (set views id (pushed v xs)) + owns t v ≡ sum_over (owns t) views + owns t v =
          total_set (owns t) views id v (pushed v xs) at in let o = sole t in omega arith

      at_own : list_of v.number (set views id (pushed v xs)) ≡ list_of v.number views ++ xs
      at_own =
          list_sole v.number (set views id (pushed v xs)) id (pushed v xs) (set_at views id v (pushed v xs) at)
          (after v.number) (owns_own v lives)
          ∙ (has_own (pushed v xs) lives (let k : owns v.number v ≤ sum_over (owns v.number) views =
          total_at (owns v.number) views id v at in let o = sole v.number in omega arith)
          ∙ ap (λ l. l ++ xs) (sym (list_own at lives (sole v.number))))

      by_list : (t : ℕ) → list_of t (set views id (pushed v xs))
          ≡ put (λ u. list_of u views) v.number (list_of v.number views ++ xs) t
      by_list t = dite (ℕ_discrete t v.number)
          (λ (e : t ≡ v.number). ap (λ u. list_of u (set views id (pushed v xs))) e ∙ (at_own
          ∙ (sym (put_same (λ u. list_of u views) v.number (list_of v.number views ++ xs))
          ∙ ap (put (λ u. list_of u views) v.number (list_of v.number views ++ xs)) (sym e))))
          (λ (ne : t ≢ v.number). list_set t views id v (pushed v xs) at (has_else v lives t xs ne)
          ∙ sym (put_other (λ u. list_of u views) v.number (list_of v.number views ++ xs) t ne))
