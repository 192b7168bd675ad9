-- What the journal of a task has that joined others, which have the numbers from 1 on.
use Rattle.std.proofs.Common.{refl, sym, ap, ◌∙◌, subst, arith, append-nil}
use Rattle.std.proofs.lemmas.Bool.{eqb-false, eqb-true, false≢true, le-leb, leb-false, leb-true, lt-ltb}
use Rattle.std.specs.Prelude.{ℕ, ◌≡◌, ◌≢◌, ◌+◌, ◌-◌, ◌<◌, ◌≤◌, Bool, true, false, cond, eqb, leb, ltb, ◌&&◌, List, [], ◌∷◌, ◌++◌, length}
use Rattle.atomic_table.specs.Seated.{TableId}
use Rattle.wait_model.specs.declared.layout.TheConstants.{CLAIMS, PIPES, TASKS}
use Rattle.wait_model.specs.Words.{flag}
use Rattle.wait_rule.specs.{declared.journal.Item.Item, declared.journal.Journal.Journal, declared.journal.Part.Part}
use Rattle.wait_rule.specs.{Aside.Grows, Known.Known, Says.IsShown, Says.newcomer, TableLaws.HasAll}
use Rattle.wait_rule.specs.Journals.{fresh, has_of, items_in, one_within, owns, pushed, times_in}
use Rattle.wait_rule.specs.Pipes.{Delivers, end_of, read_end, was_refused, write_end}
use Rattle.wait_rule.proofs.KnownLaws.FoundPipes.{joined_deliver, joined_refuse}

-- a newcomer's journal has grown by its own items
pub grown_view : (domain : TableId) (number next spare : ℕ) (k : Known) → Grows (newcomer domain number next spare) k
    → k.view ≡ pushed (fresh number next spare) k.view.items
grown_view domain number next spare k g =
    g.view ∙ ap (pushed (fresh number next spare)) (sym (ap (λ (v : Journal). v.items) g.view))

-- the lists, under the numbers from n on
abbrev pub parts_from : ℕ → List (List Item) → List Part
parts_from n [] = []
parts_from n (xs ∷ xss) = record { number = n; next = n + 1; spare = 0; items = xs } ∷ parts_from (n + 1) xss

abbrev pub crew : List (List Item) → Journal
crew xss = record {
  lives = true;
  number = 0;
  next = length xss + 1;
  spare = TASKS - (length xss + 1);
  items = [];
  joined = parts_from 1 xss;
}

-- what is so of each of them
abbrev pub Each : (List Item → Type 0) → List (List Item) → Type 0
Each P [] = Unit {0}
Each P (xs ∷ xss) = P xs × Each P xss

-- a number below all of theirs
items_below : (t n : ℕ) (xss : List (List Item)) → t < n → items_in t (parts_from n xss) ≡ []
items_below t n [] low = refl
items_below t n (xs ∷ xss) low = by (eqb n t) refl (items_below t (n + 1) xss (omega (arith, low)))
  where
    by : (b : Bool) → eqb n t ≡ b → items_in t (parts_from (n + 1) xss) ≡ []
        → cond b xs [] ++ items_in t (parts_from (n + 1) xss) ≡ []
    by true e rest = absurd (let f = eqb-true n t e in omega (arith, f, low))
    by false e rest = rest

items_each : (P : List Item → Type 0) (t n : ℕ) (xss : List (List Item)) → P [] → Each P xss
    → P (items_in t (parts_from n xss))
items_each P t n [] none each = none
items_each P t n (xs ∷ xss) none each = by (eqb n t) refl (items_each P t (n + 1) xss none each.1)
  where
    by : (b : Bool) → eqb n t ≡ b → P (items_in t (parts_from (n + 1) xss))
        → P (cond b xs [] ++ items_in t (parts_from (n + 1) xss))
    by true e behind =
        let f = eqb-true n t e in
        let rest : items_in t (parts_from (n + 1) xss) ≡ [] = items_below t (n + 1) xss (omega (arith, f)) in
        subst P (sym (ap (λ (l : List Item). xs ++ l) rest ∙ append-nil xs)) each.0
    by false e behind = behind

-- what holds of no list and of each of them holds of each list that the journal has
pub of_each : (P : List Item → Type 0) (xss : List (List Item)) → P [] → Each P xss
    → (t : ℕ) → P (has_of t (crew xss))
of_each P xss none each t = by (true && eqb 0 t)
  where
    by : (b : Bool) → P (cond b [] [] ++ items_in t (parts_from 1 xss))
    by true = items_each P t 1 xss none each
    by false = items_each P t 1 xss none each

-- and it has each number
within : (a b t : ℕ) → a ≤ t → t < b → one_within a b t ≡ 1
within a b t low high = by (leb a t) (ltb t b) (le-leb a t low) (lt-ltb t b high)
  where
    by : (x y : Bool) → x ≡ true → y ≡ true → flag (x && y) ≡ 1
    by true true e f = refl
    by false y e f = cc
    by true false e f = cc

times_from : (t n : ℕ) (xss : List (List Item)) → n ≤ t → t < n + length xss → 1 ≤ times_in t (parts_from n xss)
times_from t n [] low high = absurd (omega (arith, low, high))
times_from t n (xs ∷ xss) low high = by (eqb n t) refl
    (λ some. times_from t (n + 1) xss (omega (arith, low, some)) (omega (arith, high)))
  where
    by : (b : Bool) → eqb n t ≡ b → (n ≢ t → 1 ≤ times_in t (parts_from (n + 1) xss))
        → 1 ≤ flag b + (one_within (n + 1) (n + 1 + 0) t + times_in t (parts_from (n + 1) xss))
    by true e behind = omega arith
    by false e behind = let rest = behind (eqb-false n t e) in omega (arith, rest)

-- one of three counts is enough
first_counts : (x y z : ℕ) → x ≡ 1 → 1 ≤ x + (y + z)
first_counts x y z is = omega (arith, is)

middle_counts : (x y z : ℕ) → y ≡ 1 → 1 ≤ x + (y + z)
middle_counts x y z is = omega (arith, is)

last_counts : (x y z : ℕ) → 1 ≤ z → 1 ≤ x + (y + z)
last_counts x y z is = omega (arith, is)

pub has_all : (xss : List (List Item)) → length xss < TASKS → HasAll (crew xss)
has_all xss few t small = zeroth (eqb 0 t) refl
  where
    v : Journal
    v = crew xss

    rest : ℕ
    rest = one_within (length xss + 1) (length xss + 1 + (TASKS - (length xss + 1))) t

    behind : (b : Bool) → leb t (length xss) ≡ b → eqb 0 t ≡ false → 1 ≤ owns t v
    behind true low some = last_counts (flag (true && eqb 0 t)) rest (times_in t v.joined)
        (let f = eqb-false 0 t some in let g = leb-true t (length xss) low in
        times_from t 1 xss (omega (arith, f)) (omega (arith, g)))
    behind false high some = middle_counts (flag (true && eqb 0 t)) rest (times_in t v.joined)
        (let g = leb-false t (length xss) high in
        within (length xss + 1) (length xss + 1 + (TASKS - (length xss + 1))) t (omega (arith, g))
        (omega (arith, small, few)))

    zeroth : (b : Bool) → eqb 0 t ≡ b → 1 ≤ owns t v
    zeroth true e = first_counts (flag (true && eqb 0 t)) rest (times_in t v.joined)
        (ap (λ (b : Bool). flag (true && b)) e)
    zeroth false e = behind (leb t (length xss)) refl e

-- Where a claim was refused, somebody has the end; and what a read end got its write end sent.
module _ (v : Journal) (all : HasAll v) (shown : IsShown v) where
  pub nobody : (k : ℕ) → k < CLAIMS → ((u : ℕ) → (end_of k (has_of u v)).mine ≡ false) → (t : ℕ) → t < TASKS
      → was_refused k (has_of t v) ≡ true → ⊥
  nobody k few none t small refused =
      let r = joined_refuse v shown all k t few small refused in
      false≢true (sym (none r.0) ∙ r.1.1)

  pub delivers : (p t u : ℕ) → p < PIPES → t < TASKS → u < TASKS → (xs ys : List Item) → has_of t v ≡ xs
      → has_of u v ≡ ys → (end_of (write_end p) xs).mine ≡ true → (end_of (read_end p) ys).mine ≡ true
      → Delivers (end_of (write_end p) xs) (end_of (read_end p) ys)
  delivers p t u few small low xs ys is_xs is_ys writes reads =
      let law = joined_deliver v shown p t u few (all t small) (all u low)
      (subst (λ (l : List Item). (end_of (write_end p) l).mine ≡ true) (sym is_xs) writes)
      (subst (λ (l : List Item). (end_of (read_end p) l).mine ≡ true) (sym is_ys) reads) in
      subst (λ (l : List Item). Delivers (end_of (write_end p) l) (end_of (read_end p) ys)) is_xs
      (subst (λ (l : List Item). Delivers (end_of (write_end p) (has_of t v)) (end_of (read_end p) l)) is_ys law)
