-- From a law on states to what a step of the table asks.
use Rattle.std.proofs.Common.{◌≡◌, ℕ, ◌+◌, ◌<◌, ◌≤◌, ◌≡◌, ltb, Bool, true, false, List, [], slice_index, set, refl, sym}
use Rattle.std.proofs.Common.{ap, ◌∙◌, subst, arith, append-nil, le-ltb, ltb-true}
use lib.ListN.{get_elem?}
use mathlib.Core.Option.{some}
use Rattle.atomic_table.specs.Table.{keeps, Allows}
use Rattle.wait_model.specs.{declared.layout.TheConstants.TASKS, Words.flag}
use Rattle.wait_rule.specs.{declared.journal.Item.Item, declared.journal.Journal.Journal, declared.journal.Ask.Ask}
use Rattle.wait_rule.specs.Rule.{Holds}
use Rattle.wait_rule.specs.Journals.{Scene, owns, sum_over, has_of, list_of, seen_as, moved, pushed}
use Rattle.wait_rule.proofs.TableSteps.SeenStates.{total_set, total_at, owns_own, list_own, list_sole, list_none}
use Rattle.wait_rule.proofs.TableSteps.SeenStates.{seen_step}

pub pushed_none : (v : Journal) → pushed v [] ≡ v
pushed_none v = ap (λ (l : List Item). record v { items = l }) (append-nil v.items)

one_most : (b : Bool) → flag b ≤ 1
one_most true = omega arith
one_most false = omega arith

-- each number has one owner at most
pub at_most : (views : List Journal) → ((t : ℕ) → sum_over (owns t) views ≡ flag (ltb t TASKS))
    → (t : ℕ) → sum_over (owns t) views ≤ 1
at_most views sole t = let e = sole t in let k = one_most (ltb t TASKS) in omega arith

pub nobody_else : (views : List Journal) → ((t : ℕ) → sum_over (owns t) views ≡ flag (ltb t TASKS))
    → (t : ℕ) → TASKS ≤ t → list_of t views ≡ []
nobody_else views sole t far =
    let e = sole t in
    let k : flag (ltb t TASKS) ≡ 0 = ap flag (le-ltb t TASKS far) in
    list_none t views (omega arith)

-- the own number is one of a task
pub own_small : (views : List Journal) (id : ℕ) (v : Journal) → get_elem? views id ≡ some v → v.lives ≡ true
    → ((t : ℕ) → sum_over (owns t) views ≡ flag (ltb t TASKS)) → v.number < TASKS
own_small views id v at lives sole = by (ltb v.number TASKS) refl
  where
    by : (b : Bool) → ltb v.number TASKS ≡ b → v.number < TASKS
    by true q = ltb-true v.number TASKS q
    by false q = absurd (
        let one = owns_own v lives in
        let all : owns v.number v ≤ sum_over (owns v.number) views = total_at (owns v.number) views id v at in
        let none : flag (ltb v.number TASKS) ≡ 0 = ap flag q in
        let sum = sole v.number in
        omega arith
        )

module _ (L : Scene → Type 0) where
  -- A move of what is seen that keeps the law, wherever it meets the law and shows the seat's own list; it may
  -- tell something of the word found.
  abbrev pub Moves : Journal → ℕ → (ℕ → ℕ) → (ℕ → List Item) → (ℕ → Type 0) → Type 0
  Moves v p f xs tells = (s : Scene) → L s → v.number < TASKS → s.items v.number ≡ v.items
      → slice_index s.words p < 18446744073709551616
      → L (moved s v.number p (f (slice_index s.words p)) (xs (slice_index s.words p)))
      × tells (slice_index s.words p)

  -- the same, where the items follow from more than the word found
  abbrev pub MovesSome : Journal → ℕ → (ℕ → ℕ) → (ℕ → List Item → Type 0) → Type 0
  MovesSome v p f tells = (s : Scene) → L s → v.number < TASKS → s.items v.number ≡ v.items
      → slice_index s.words p < 18446744073709551616
      → (xs : List Item) × L (moved s v.number p (f (slice_index s.words p)) xs) × tells (slice_index s.words p) xs

  -- the generic lemma: such a move is what a step of the table asks
  pub allows_some : (slots id : ℕ) (v : Journal) (c : List (ℕ × Ask)) (p : ℕ) (f : ℕ → ℕ)
      (tells : ℕ → List Item → Type 0) → v.lives ≡ true → MovesSome v p f tells
      → Allows (Holds L) slots id (v, c) p f (λ n m. (xs : List Item) × (m ≡ (pushed v xs, c)) × tells n xs)
  allows_some slots id v c p f tells lives moves s r _ at small =
      let n : ℕ = slice_index s.words p in
      let most = at_most s.views r.sole in
      let m = moves (seen_as s.words s.views) r.law (own_small s.views id v at lives r.sole)
      (list_own s.words s.views id p n v [] at lives (most v.number)) small in
      let now : L (seen_as (set s.words p (f n)) (set s.views id (pushed v m.0))) =
      subst L (sym (seen_step s.words s.views id p (f n) v m.0 at lives most)) m.1 in
      (pushed v m.0, keeps, tt, record { sole = λ t. same t m.0; law = now }, (m.0, refl, m.2))
    where
      same : (t : ℕ) (ys : List Item) → sum_over (owns t) (set s.views id (pushed v ys)) ≡ flag (ltb t TASKS)
      same t ys =
          let k : sum_over (owns t) (set s.views id (pushed v ys)) + owns t v ≡ sum_over (owns t) s.views + owns t v =
          total_set (owns t) s.views id v (pushed v ys) at in
          let o = r.sole t in
          omega arith

  -- where they follow from the word alone
  pub allows : (slots id : ℕ) (v : Journal) (c : List (ℕ × Ask)) (p : ℕ) (f : ℕ → ℕ) (xs : ℕ → List Item)
      (tells : ℕ → Type 0) → v.lives ≡ true → Moves v p f xs tells
      → Allows (Holds L) slots id (v, c) p f (λ n m. (m ≡ (pushed v (xs n), c)) × tells n)
  allows slots id v c p f xs tells lives moves s r long at small =
      let n : ℕ = slice_index s.words p in
      let a = allows_some slots id v c p f (λ k ys. (ys ≡ xs k) × tells k) lives
      (λ z law few own less. let m = moves z law few own less in
      (xs (slice_index z.words p), m.0, (refl, m.1))) s r long at small in
      (a.0, a.1, a.2, a.3, (a.4.1 ∙ ap (λ (ys : List Item). (pushed v ys, c)) a.4.2.0, a.4.2.1))

  -- a step by which a task learns of the lists that it has
  pub learns_more : (slots id : ℕ) (v : Journal) (c : List (ℕ × Ask)) (p : ℕ) (f : ℕ → ℕ) (xs : ℕ → List Item)
      (tells : ℕ → Type 0) → v.lives ≡ true → Moves v p f xs (λ _. Unit {0})
      → ((s : Scene) → L s → ((t : ℕ) → 1 ≤ owns t v → s.items t ≡ has_of t v)
      → ((t : ℕ) → owns t v ≤ 1) → ((t : ℕ) → TASKS ≤ t → s.items t ≡ []) → tells (slice_index s.words p))
      → Allows (Holds L) slots id (v, c) p f (λ n m. (m ≡ (pushed v (xs n), c)) × tells n)
  learns_more slots id v c p f xs tells lives moves fact s r long at small =
      let a = allows slots id v c p f xs (λ _. Unit {0}) lives moves s r long at small in
      let most = at_most s.views r.sole in
      let told : tells (slice_index s.words p) = fact (seen_as s.words s.views) r.law
      (λ t mine. list_sole t s.views id v at (most t) mine)
      (λ t. let part : owns t v ≤ sum_over (owns t) s.views = total_at (owns t) s.views id v at in
      let all = most t in omega arith) (nobody_else s.views r.sole) in
      (a.0, a.1, a.2, a.3, (a.4.0, told))

  -- and one that adds nothing
  pub learns : (slots id : ℕ) (v : Journal) (c : List (ℕ × Ask)) (p : ℕ) (tells : Type 0) → v.lives ≡ true
      → ((s : Scene) (n : ℕ) → L s → n ≡ slice_index s.words p → L (moved s v.number p n []))
      → ((s : Scene) → L s → ((t : ℕ) → 1 ≤ owns t v → s.items t ≡ has_of t v)
      → ((t : ℕ) → owns t v ≤ 1) → ((t : ℕ) → TASKS ≤ t → s.items t ≡ []) → tells)
      → Allows (Holds L) slots id (v, c) p (λ n. n) (λ n m. (m ≡ (v, c)) × tells)
  learns slots id v c p tells lives still fact s r long at small =
      let a = learns_more slots id v c p (λ n. n) (λ n. []) (λ _. tells) lives
      (λ z law few own _. (still z (slice_index z.words p) law refl, tt)) fact s r long at small in
      (a.0, a.1, a.2, a.3, (a.4.0 ∙ ap (λ w. (w, c)) (pushed_none v), a.4.1))
