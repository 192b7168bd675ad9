-- What is known of a tally over calls, where a task is cut off another, and where it is joined.
use Rattle.std.proofs.Common.{◌∙◌, ap, refl, sym, subst, arith, inl, inr, append-nil, append_assoc, eq-eqb, ne_eqb, le-leb, lt-ltb, leb-true, ltb-true}
use Rattle.std.proofs.lemmas.Bool.{leb-false, ltb-false}
use Rattle.std.proofs.lemmas.Bool.Decides.{eqb_tells}
use Rattle.std.specs.Prelude.{ℕ, zero, suc, ◌+◌, ◌-◌, ◌%◌, ◌^◌, ◌<◌, ◌≤◌, ◌≡◌, ◌≢◌, ◌⊎◌, ◌==◌, ◌&&◌, Bool, true, false, cond, eqb, ltb, leb, Some, List, [], ◌∷◌, ◌++◌}
use Rattle.wait_model.specs.{declared.layout.TheConstants.TASKS, declared.steps.Step.Step, Totals.sum_below}
use Rattle.wait_model.specs.{Totals.total, Words.flag}
use Rattle.wait_model.proofs.HistoryLaws.StepTotals.{sum_grown, sum_same, sum_zero}
use Rattle.wait_rule.specs.{declared.journal.Item.Item, declared.journal.Journal.Journal, Items.steps_of, Says.IsShown}
use Rattle.wait_rule.specs.{TableLaws.HasAll, TableLaws.histories_in}
use Rattle.wait_rule.specs.Journals.{fresh, handed_over, has_of, items_in, joined_with, left_with, one_within, owns}
use Rattle.wait_rule.specs.Journals.{part_in, pushed, times_in}
use Rattle.wait_rule.proofs.TableSteps.ForksAndJoins.{alone, items_in-append, times_in-append}
use Rattle.wait_rule.proofs.TableSteps.ItemLists.{steps_append}
use Rattle.wait_rule.proofs.TableSteps.SeenStates.{has_none, none_in}
use Rattle.futex_table.specs.{GuardedWords.read_in, TalliedTasks.TallyHad}
use Rattle.futex_table.specs.GuardedTallies.{AllReadAdds, UsesTally, adds_in, tally_adds}

-- sums of numbers
sum_two : (n : ℕ) (f g h : ℕ → ℕ) → ((i : ℕ) → h i ≡ f i + g i) → sum_below n h ≡ sum_below n f + sum_below n g
unfolding sum_below
sum_two zero f g h is = refl
sum_two (suc n) f g h is =
    let rest = sum_two n f g h is in
    let last = is n in
    omega (arith, rest, last)

sum_ones : (n : ℕ) (f : ℕ → ℕ) → ((i : ℕ) → i < n → f i ≡ 1) → sum_below n f ≡ n
unfolding sum_below
sum_ones zero f is = refl
sum_ones (suc n) f is =
    let rest = sum_ones n f (λ i lt. is i (omega (arith, lt))) in
    let last = is n (omega arith) in
    omega (arith, rest, last)

sum_most : (n : ℕ) (f : ℕ → ℕ) → ((i : ℕ) → f i ≤ 1) → sum_below n f ≤ n
unfolding sum_below
sum_most zero f most = omega arith
sum_most (suc n) f most =
    let rest = sum_most n f most in
    let last = most n in
    omega (arith, rest, last)

-- numbers of at most one each that sum to all are one each
all_ones : (n : ℕ) (f : ℕ → ℕ) → ((i : ℕ) → f i ≤ 1) → sum_below n f ≡ n → (i : ℕ) → i < n → 1 ≤ f i
unfolding sum_below
all_ones zero f most is i lt = absurd (omega (arith, lt))
all_ones (suc n) f most is i lt =
    let rest = sum_most n f most in
    let last = most n in
    let whole : sum_below n f + f n ≡ suc n = is in elim (eqb_tells i n) [
      | inl q ↦
          let one : 1 ≤ f n = omega (arith, rest, last, whole) in
          subst (λ (j : ℕ). 1 ≤ f j) (sym q.1) one
      | inr q ↦
          let ne : i ≢ n = q.1 in
          all_ones n f most (omega (arith, rest, last, whole)) i (omega (arith, lt, ne))
    ]

-- numbers from one on and below another
tested : (b d : Bool) (n : ℕ) → b ≡ true → d ≡ true → flag (b && d) ≡ 1
tested b d n p q = ap flag (ap (λ (x : Bool). x && d) p ∙ q)

within_in : (a b t : ℕ) → a ≤ t → t < b → one_within a b t ≡ 1
within_in a b t low high = tested (leb a t) (ltb t b) t (le-leb a t low) (lt-ltb t b high)

within_out : (a b t : ℕ) → (a ≤ t → t < b → ⊥) → one_within a b t ≡ 0
within_out a b t out = by (leb a t) (ltb t b) refl refl
  where
    by : (x y : Bool) → leb a t ≡ x → ltb t b ≡ y → flag (x && y) ≡ 0
    by true true p q = absurd (out (leb-true a t p) (ltb-true t b q))
    by true false p q = refl
    by false y p q = refl

data Place (a b t : ℕ) : Type 0 where
  below : t < a → Place a b t
  inside : a ≤ t → t < b → Place a b t
  above : b ≤ t → Place a b t

place_of : (a b t : ℕ) → Place a b t
place_of a b t = by (leb a t) (ltb t b) refl refl
  where
    by : (x y : Bool) → leb a t ≡ x → ltb t b ≡ y → Place a b t
    by true true p q = inside (leb-true a t p) (ltb-true t b q)
    by true false p q = above (ltb-false t b q)
    by false y p q = below (leb-false a t p)

within_low : (a b t : ℕ) → t < a → one_within a b t ≡ 0
within_low a b t lt = within_out a b t (λ low high. absurd (omega (arith, lt, low)))

within_high : (a b t : ℕ) → b ≤ t → one_within a b t ≡ 0
within_high a b t le = within_out a b t (λ low high. absurd (omega (arith, le, high)))

-- two rows of numbers, one behind the other
two_rows : (a b c t : ℕ) → a ≤ b → b ≤ c → one_within a c t ≡ one_within a b t + one_within b c t
two_rows a b c t ab bc = by (place_of a b t) (place_of b c t)
  where
    by : Place a b t → Place b c t → one_within a c t ≡ one_within a b t + one_within b c t
    by (below lt) q =
        let x = within_low a c t lt in
        let y = within_low a b t lt in
        let z = within_low b c t (omega (arith, lt, ab)) in
        omega (arith, x, y, z)
    by (inside low high) q =
        let x = within_in a c t low (omega (arith, high, bc)) in
        let y = within_in a b t low high in
        let z = within_low b c t high in
        omega (arith, x, y, z)
    by (above le) (below lt) = absurd (omega (arith, le, lt))
    by (above le) (inside low high) =
        let x = within_in a c t (omega (arith, ab, le)) high in
        let y = within_high a b t le in
        let z = within_in b c t low high in
        omega (arith, x, y, z)
    by (above le) (above over) =
        let x = within_high a c t over in
        let y = within_high a b t le in
        let z = within_high b c t over in
        omega (arith, x, y, z)

one_row : (a t : ℕ) → flag (eqb a t) ≡ one_within a (a + 1) t
one_row a t = elim (eqb_tells a t) [
  | inl q ↦
      let same : a ≡ t = q.1 in
      let one = within_in a (a + 1) t (omega (arith, same)) (omega (arith, same)) in
      ap flag q.0 ∙ sym one
  | inr q ↦
      let ne : a ≢ t = q.1 in
      ap flag q.0 ∙ sym (within_out a (a + 1) t (λ low high. absurd (omega (arith, ne, low, high))))
]

-- how many they are
row_more : (n a k : ℕ) → a + k < n
    → sum_below n (λ t. one_within a (a + k + 1) t) ≡ sum_below n (λ t. one_within a (a + k) t) + 1
row_more n a k room = sum_grown n (a + k) 1 (λ t. one_within a (a + k) t) (λ t. one_within a (a + k + 1) t) room
    (let one = within_in a (a + k + 1) (a + k) (omega arith) (omega arith) in
    let none = within_high a (a + k) (a + k) (omega arith) in
    omega (arith, one, none))
    (λ t ne.
    let rows = two_rows a (a + k) (a + k + 1) t (omega arith) (omega arith) in
    let none = within_out (a + k) (a + k + 1) t (λ low high. absurd (omega (arith, ne, low, high))) in
    omega (arith, rows, none))

count_row : (n a k b : ℕ) → b ≡ a + k → b ≤ n → sum_below n (λ t. one_within a b t) ≡ k
count_row n a zero b is room = sum_zero n (λ t. one_within a b t)
    (λ t lt. within_out a b t (λ low high. absurd (omega (arith, is, low, high))))
count_row n a (suc k) b is room =
    let rest = count_row n a k (a + k) refl (omega (arith, is, room)) in
    let more = row_more n a k (omega (arith, is, room)) in
    let end : b ≡ a + k + 1 = omega (arith, is) in
    let here = ap (λ (e : ℕ). sum_below n (λ t. one_within a e t)) end in
    omega (arith, rest, more, here)

-- a number that may be given out is cut off, with a share of those behind it
module _ (v : Journal) (share : ℕ) (fits : 1 + share ≤ v.spare) where
  cut_new : (t : ℕ) → owns t (handed_over share v) ≡ one_within v.next (v.next + 1 + share) t
  cut_new t =
      let one = one_row v.next t in
      let rows = two_rows v.next (v.next + 1) (v.next + 1 + share) t (omega arith) (omega arith) in
      omega (arith, one, rows)

  cut_both : (t : ℕ) → owns t v ≡ owns t (left_with share v) + owns t (handed_over share v)
  cut_both t =
      let new = cut_new t in
      let end : v.next + 1 + share + (v.spare - (1 + share)) ≡ v.next + v.spare = omega (arith, fits) in
      let rows = two_rows v.next (v.next + 1 + share) (v.next + v.spare) t (omega arith) (omega (arith, fits)) in
      let left = ap (λ (e : ℕ). one_within (v.next + 1 + share) e t) end in
      omega (arith, new, rows, left)

  cut_count : v.next + v.spare ≤ TASKS → sum_below TASKS (λ t. owns t (handed_over share v)) ≡ 1 + share
  cut_count room = sum_same TASKS (λ t. one_within v.next (v.next + 1 + share) t) (λ t. owns t (handed_over share v))
      (λ t _. cut_new t)
      ∙ count_row TASKS v.next (1 + share) (v.next + 1 + share) (omega arith) (omega (arith, fits, room))

-- a list of nobody
blank : (b : Bool) → ◌≡◌ {A = List Item} (cond b [] [] ++ []) []
blank true = refl
blank false = refl

newly_uses : (m c o number next spare t : ℕ) → UsesTally m c (t == o) (histories_in (fresh number next spare) t)
newly_uses m c o number next spare t = subst (λ (xs : List Item). UsesTally m c (t == o) (steps_of xs))
    (sym (blank (true && eqb number t))) tt

newly_adds : (c number next spare : ℕ) → adds_in c (histories_in (fresh number next spare)) ≡ 0
newly_adds c number next spare = sum_zero TASKS
    (λ t. total (tally_adds c) (histories_in (fresh number next spare) t))
    (λ t _. ap (λ (xs : List Item). total (tally_adds c) (steps_of xs)) (blank (true && eqb number t)))

pub first_had : (m c o : ℕ) → TallyHad (fresh 0 1 (TASKS - 1)) m c o 0 TASKS
first_had m c o = record {
  uses = λ t few. newly_uses m c o 0 1 (TASKS - 1) t;
  adds = newly_adds c 0 1 (TASKS - 1);
  numbers = sum_ones TASKS (λ t. owns t (fresh 0 1 (TASKS - 1)))
      (λ t few. let a = alone t in let b : flag (ltb t TASKS) ≡ 1 = ap flag (lt-ltb t TASKS few) in omega (arith, a, b));
  sole = λ t. let a = alone t in let b = flag_most (ltb t TASKS) in omega (arith, a, b);
  lives = refl;
  low = omega arith;
  room = omega arith;
}
  where
    flag_most : (b : Bool) → flag b ≤ 1
    flag_most true = omega arith
    flag_most false = omega arith

module _ (v : Journal) (m c o n h share : ℕ) (had : TallyHad v m c o n h) (fits : 1 + share ≤ v.spare) where
  pub cut_had : TallyHad (handed_over share v) m c o 0 (1 + share)
  cut_had = record {
    uses = λ t few. newly_uses m c o v.next (v.next + 1) share t;
    adds = newly_adds c v.next (v.next + 1) share;
    numbers = cut_count v share fits had.room;
    sole = λ t. let a = cut_both v share fits t in let b = had.sole t in omega (arith, a, b);
    lives = refl;
    low = (let r = had.room in omega (arith, r, fits));
    room = (let r = had.room in omega (arith, r, fits));
  }

  pub left_had : TallyHad (left_with share v) m c o n (h - (1 + share))
  left_had = record {
    uses = had.uses;
    adds = had.adds;
    numbers = (let all = sum_two TASKS (λ t. owns t (left_with share v)) (λ t. owns t (handed_over share v))
        (λ t. owns t v) (cut_both v share fits) in
        let new = cut_count v share fits had.room in
        let is = had.numbers in
        omega (arith, all, new, is));
    sole = λ t. let a = cut_both v share fits t in let b = had.sole t in omega (arith, a, b);
    lives = had.lives;
    low = had.low;
    room = (let r = had.room in omega (arith, r, fits));
  }

-- the own list is in no other place
own_has : (v : Journal) → v.lives ≡ true → owns v.number v ≤ 1 → has_of v.number v ≡ v.items
own_has v lives sole =
    let mine : (v.lives && eqb v.number v.number) ≡ true =
    ap (λ (b : Bool). b && eqb v.number v.number) lives ∙ eq-eqb v.number v.number refl in
    let one : flag (v.lives && eqb v.number v.number) ≡ 1 = ap flag mine in
    let none : times_in v.number v.joined ≡ 0 = omega (arith, one, sole) in
    ap (λ (b : Bool). cond b v.items [] ++ items_in v.number v.joined) mine
    ∙ (ap (λ (xs : List Item). v.items ++ xs) (none_in v.number v.joined none) ∙ append-nil v.items)

-- more items of the own list
module _ (m c o n h k : ℕ) (v : Journal) (xs : List Item) (had : TallyHad v m c o n h)
    (uses : UsesTally m c (v.number == o) (steps_of v.items) → UsesTally m c (v.number == o) (steps_of (v.items ++ xs)))
    (adds : total (tally_adds c) (steps_of (v.items ++ xs)) ≡ total (tally_adds c) (steps_of v.items) + k) where
  own_old : has_of v.number v ≡ v.items
  own_old = own_has v had.lives (had.sole v.number)

  own_new : has_of v.number (pushed v xs) ≡ v.items ++ xs
  own_new = own_has (pushed v xs) had.lives (had.sole v.number)

  other_has : (t : ℕ) → t ≢ v.number → has_of t (pushed v xs) ≡ has_of t v
  other_has t ne = ap (λ (b : Bool). cond b (v.items ++ xs) [] ++ items_in t v.joined) off
      ∙ sym (ap (λ (b : Bool). cond b v.items [] ++ items_in t v.joined) off)
    where
      off : (v.lives && eqb v.number t) ≡ false
      off = ap (λ (b : Bool). b && eqb v.number t) had.lives ∙ ne_eqb v.number t (λ q. ne (sym q))

  pub grown_had : TallyHad (pushed v xs) m c o (n + k) h
  grown_had = record {
    uses = λ t few. elim (eqb_tells t v.number) [
      | inl q ↦ subst (λ (i : ℕ). UsesTally m c (i == o) (histories_in (pushed v xs) i)) (sym q.1)
          (subst (λ (ys : List Item). UsesTally m c (v.number == o) (steps_of ys)) (sym own_new)
          (uses (subst (λ (ys : List Item). UsesTally m c (v.number == o) (steps_of ys)) own_old
          (had.uses v.number had.low))))
      | inr q ↦ subst (λ (ys : List Item). UsesTally m c (t == o) (steps_of ys)) (sym (other_has t q.1))
          (had.uses t few)
    ];
    adds = (let more = sum_grown TASKS v.number k (λ t. total (tally_adds c) (histories_in v t))
        (λ t. total (tally_adds c) (histories_in (pushed v xs) t)) had.low
        (ap (λ (ys : List Item). total (tally_adds c) (steps_of ys)) own_new
        ∙ (adds ∙ ap (λ (ys : List Item). total (tally_adds c) (steps_of ys) + k) (sym own_old)))
        (λ t ne. ap (λ (ys : List Item). total (tally_adds c) (steps_of ys)) (other_has t ne)) in
        let was = had.adds in
        omega (arith, more, was));
    numbers = had.numbers;
    sole = had.sole;
    lives = had.lives;
    low = had.low;
    room = had.room;
  }

-- two journals that are joined
module _ (v w : Journal) (lives : w.lives ≡ true) (sole : (t : ℕ) → owns t (joined_with v w) ≤ 1) where
  both_own : (t : ℕ) → owns t (joined_with v w) ≡ owns t v + owns t w
  both_own t =
      let all = times_in-append t v.joined (part_in w ∷ w.joined) in
      let live : flag (w.lives && eqb w.number t) ≡ flag (eqb w.number t) =
      ap (λ (b : Bool). flag (b && eqb w.number t)) lives in
      omega (arith, all, live)

  both_have : (t : ℕ) → has_of t (joined_with v w) ≡ has_of t v ++ has_of t w
  both_have t = ap (λ (xs : List Item). cond (v.lives && eqb v.number t) v.items [] ++ xs)
      (items_in-append t v.joined (part_in w ∷ w.joined)
      ∙ ap (λ (b : Bool). items_in t v.joined ++ (cond (b && eqb w.number t) w.items [] ++ items_in t w.joined))
      (sym lives))
      ∙ sym (append_assoc (cond (v.lives && eqb v.number t) v.items []) (items_in t v.joined) (has_of t w))

  one_has : (t : ℕ) → (has_of t (joined_with v w) ≡ has_of t v) ⊎ (has_of t (joined_with v w) ≡ has_of t w)
  one_has t = elim (eqb_tells (owns t v) 0) [
    | inl q ↦ inr (both_have t ∙ ap (λ (xs : List Item). xs ++ has_of t w) (has_none t v q.1))
    | inr q ↦
        let some : owns t v ≢ 0 = q.1 in
        let most = sole t in
        let sum = both_own t in
        let none : owns t w ≡ 0 = omega (arith, some, most, sum) in
        inl (both_have t ∙ (ap (λ (xs : List Item). has_of t v ++ xs) (has_none t w none) ∙ append-nil (has_of t v)))
  ]

  module _ (m c o a b h g : ℕ) (first : TallyHad v m c o a h) (other : TallyHad w m c o b g) where
    uses_one : (t : ℕ) → t < TASKS → UsesTally m c (t == o) (histories_in (joined_with v w) t)
    uses_one t few = elim (one_has t) [
      | inl q ↦ subst (λ (xs : List Item). UsesTally m c (t == o) (steps_of xs)) (sym q) (first.uses t few)
      | inr q ↦ subst (λ (xs : List Item). UsesTally m c (t == o) (steps_of xs)) (sym q) (other.uses t few)
    ]

    adds_two : (es fs : List Step)
        → total (tally_adds c) (es ++ fs) ≡ total (tally_adds c) es + total (tally_adds c) fs
    adds_two [] fs = omega arith
    adds_two (e ∷ es) fs = let ih = adds_two es fs in omega (arith, ih)

    adds_both : (t : ℕ) → total (tally_adds c) (histories_in (joined_with v w) t)
        ≡ total (tally_adds c) (histories_in v t) + total (tally_adds c) (histories_in w t)
    adds_both t = ap (λ (xs : List Item). total (tally_adds c) (steps_of xs)) (both_have t)
        ∙ (ap (total (tally_adds c)) (steps_append (has_of t v) (has_of t w))
        ∙ adds_two (histories_in v t) (histories_in w t))

    pub joined_had : TallyHad (joined_with v w) m c o (a + b) (h + g)
    joined_had = record {
      uses = uses_one;
      adds = (let all = sum_two TASKS (λ t. total (tally_adds c) (histories_in v t))
          (λ t. total (tally_adds c) (histories_in w t))
          (λ t. total (tally_adds c) (histories_in (joined_with v w) t)) adds_both in
          let one = first.adds in
          let two = other.adds in
          omega (arith, all, one, two));
      numbers = (let all = sum_two TASKS (λ t. owns t v) (λ t. owns t w) (λ t. owns t (joined_with v w)) both_own in
          let one = first.numbers in
          let two = other.numbers in
          omega (arith, all, one, two));
      sole = sole;
      lives = first.lives;
      low = first.low;
      room = first.room;
    }

-- who has all numbers, each once, has all
has_all : (v : Journal) (m c o n : ℕ) → TallyHad v m c o n TASKS → HasAll v
has_all v m c o n had t few = all_ones TASKS (λ i. owns i v) had.sole had.numbers t few

-- what the first of two has read
pub read_of_all : AllReadAdds → (v w : Journal) → IsShown (joined_with v w) → (m c o a b h g r : ℕ)
    → TallyHad v m c o a h → TallyHad w m c o b g → read_in m c (steps_of v.items) ≡ Some r → h + g ≡ TASKS
    → r ≡ (a + b) % 2 ^ 64
read_of_all reads v w law m c o a b h g r first other read all =
    let had = joined_had v w other.lives law.sole m c o a b h g first other in
    let whole : TallyHad (joined_with v w) m c o (a + b) TASKS = subst (TallyHad (joined_with v w) m c o (a + b)) all had in
    let own : has_of v.number (joined_with v w) ≡ v.items = own_has (joined_with v w) had.lives (had.sole v.number) in
    reads (joined_with v w) law (has_all (joined_with v w) m c o (a + b) whole) m c o had.uses v.number r first.low
    (ap (λ (xs : List Item). read_in m c (steps_of xs)) own ∙ read) ∙ ap (λ (k : ℕ). k % 2 ^ 64) had.adds
