-- A task that is cut in two or joined leaves the state that is seen as it was.
use Rattle.std.proofs.Common.{◌≡◌, ℕ, zero, suc, ◌+◌, ◌-◌, ◌<◌, ◌≤◌, ◌≢◌, cond, eqb, ltb, leb, ◌&&◌, Bool, true, false}
use Rattle.std.proofs.Common.{List, [], ◌∷◌, ◌++◌, set, refl, sym, ap, ◌∙◌, subst, arith, eq-eqb, ne_eqb, append-nil}
use Rattle.std.proofs.Common.{append_assoc, le-leb, lt-ltb, leb-true, ltb-true, le-ltb, lt_of_not-le}
use mathlib.Core.Logic.{dite}
use mathlib.Core.Option.{some, some-injective, some-ne-none}
use lib.ListN.{get_elem?}
use native.Mathlib.Decide.{ℕ_discrete, dec_le}
use Rattle.atomic_table.specs.Table.{Splits, Joins}
use Rattle.atomic_table.proofs.Lists.{set_else}
use Rattle.wait_model.specs.{declared.layout.TheConstants.TASKS, Words.flag}
use Rattle.wait_rule.specs.{declared.journal.Item.Item, declared.journal.Part.Part, declared.journal.Journal.Journal}
use Rattle.wait_rule.specs.Rule.{Holds}
use Rattle.wait_rule.specs.Journals.{Scene, one_within, times_in, owns, sum_over, items_in, has_of, list_of, part_in}
use Rattle.wait_rule.specs.Journals.{seen_as, left_with, handed_over, joined_with, nobody, fresh}
use Rattle.wait_rule.proofs.TableSteps.StateLaws.{at_most}
use Rattle.wait_rule.proofs.TableSteps.SeenStates.{total_set, total_at, set_at, list_set, none_in, has_none, list_sole}

pub total_snoc : (f : Journal → ℕ) (views : List Journal) (v : Journal)
    → sum_over f (views ++ v ∷ []) ≡ sum_over f views + f v
total_snoc f [] v = omega arith
total_snoc f (x ∷ xs) v = let r = total_snoc f xs v in omega arith

pub list_snoc : (t : ℕ) (views : List Journal) (v : Journal) → has_of t v ≡ []
    → list_of t (views ++ v ∷ []) ≡ list_of t views
list_snoc t [] v none = append-nil (has_of t v) ∙ none
list_snoc t (x ∷ xs) v none = ap (λ l. has_of t x ++ l) (list_snoc t xs v none)

pub seen_again : (words : List ℕ) (one two : List Journal) → ((t : ℕ) → list_of t one ≡ list_of t two)
    → seen_as words one ≡ seen_as words two
seen_again words one two same = λ i. record { words = words; items = λ t. same t i }

within_yes : (a b t : ℕ) → a ≤ t → t < b → one_within a b t ≡ 1
within_yes a b t le lt = ap flag (ap (λ x. x && ltb t b) (le-leb a t le) ∙ lt-ltb t b lt)

-- where it is not 0, t lies there
within_is : (a b t : ℕ) → one_within a b t ≢ 0 → (a ≤ t) × (t < b)
within_is a b t there = by_tests (leb a t) refl (ltb t b) refl
  where
    by_tests : (x : Bool) → leb a t ≡ x → (y : Bool) → ltb t b ≡ y → (a ≤ t) × (t < b)
    by_tests true x_is true y_is = (leb-true a t x_is, ltb-true t b y_is)
    by_tests true x_is false y_is = absurd (there (ap flag (ap (λ k. k && ltb t b) x_is ∙ y_is)))
    by_tests false x_is y y_is = absurd (there (ap (λ k. flag (k && ltb t b)) x_is))

within_low : (a b t : ℕ) → t < a → one_within a b t ≡ 0
within_low a b t low = dite (ℕ_discrete (one_within a b t) 0) (λ (z : one_within a b t ≡ 0). z)
    (λ (z : one_within a b t ≢ 0). let i = within_is a b t z in absurd (omega arith))

within_high : (a b t : ℕ) → b ≤ t → one_within a b t ≡ 0
within_high a b t high = dite (ℕ_discrete (one_within a b t) 0) (λ (z : one_within a b t ≡ 0). z)
    (λ (z : one_within a b t ≢ 0). let i = within_is a b t z in absurd (omega arith))

-- the numbers of a cut are those that were there
cut_same : (share next spare t : ℕ) → 1 + share ≤ spare → one_within (next + 1 + share)
    (next + 1 + share + (spare - (1 + share))) t + (flag (eqb next t) + one_within (next + 1) (next + 1 + share) t)
    ≡ one_within next (next + spare) t
cut_same share next spare t fits = by_place (dec_le (suc t) next) (ℕ_discrete next t)
    (dec_le (suc t) (next + 1 + share)) (dec_le (suc t) (next + spare))
  where
    high : ℕ
    high = next + 1 + share

    off : next ≢ t → flag (eqb next t) ≡ 0
    off n = ap flag (ne_eqb next t n)

    by_place : Dec (t < next) → Dec (next ≡ t) → Dec (t < next + 1 + share) → Dec (t < next + spare)
        → one_within (next + 1 + share) (next + 1 + share + (spare - (1 + share))) t
        + (flag (eqb next t) + one_within (next + 1) (next + 1 + share) t) ≡ one_within next (next + spare) t
    by_place (yes low) e b c =
        let k = off (λ (z : next ≡ t). absurd (omega arith)) in
        let a1 = within_low (next + 1 + share) (next + 1 + share + (spare - (1 + share))) t (omega arith) in
        let a2 = within_low (next + 1) (next + 1 + share) t (omega arith) in
        let a3 = within_low next (next + spare) t low in
        omega arith
    by_place (no up) (yes e) b c =
        let k : flag (eqb next t) ≡ 1 = ap flag (eq-eqb next t e) in
        let a1 = within_low (next + 1 + share) (next + 1 + share + (spare - (1 + share))) t (omega arith) in
        let a2 = within_low (next + 1) (next + 1 + share) t (omega arith) in
        let a3 = within_yes next (next + spare) t (omega arith) (omega arith) in
        omega arith
    by_place (no up) (no n) (yes b) c =
        let k = off n in
        let above = lt_of_not-le up in
        let past : next < t = omega (arith, n) in
        let a1 = within_low (next + 1 + share) (next + 1 + share + (spare - (1 + share))) t b in
        let a2 = within_yes (next + 1) (next + 1 + share) t (omega arith) b in
        let a3 = within_yes next (next + spare) t (omega arith) (omega arith) in
        omega arith
    by_place (no up) (no n) (no b) (yes c) =
        let k = off n in
        let past = lt_of_not-le b in
        let a1 = within_yes (next + 1 + share) (next + 1 + share + (spare - (1 + share))) t (omega arith)
        (omega arith) in
        let a2 = within_high (next + 1) (next + 1 + share) t (omega arith) in
        let a3 = within_yes next (next + spare) t (omega arith) c in
        omega arith
    by_place (no up) (no n) (no b) (no c) =
        let k = off n in
        let past = lt_of_not-le b in
        let over = lt_of_not-le c in
        let a1 = within_high (next + 1 + share) (next + 1 + share + (spare - (1 + share))) t (omega arith) in
        let a2 = within_high (next + 1) (next + 1 + share) t (omega arith) in
        let a3 = within_high next (next + spare) t (omega arith) in
        omega arith

nothing : (b : Bool) → ◌≡◌ {A = List Item} (cond b [] []) []
nothing true = refl
nothing false = refl

module _ (L : Scene → Type 0) where
  pub forks : (id : ℕ) (v : Journal) (share : ℕ) → 1 + share ≤ v.spare → Splits (Holds L) id v (left_with share v)
      (handed_over share v)
  forks id v share fits s r at = record {
    sole = λ t.
        let a = total_snoc (owns t) (set s.views id (left_with share v)) (handed_over share v) in
        let b = total_set (owns t) s.views id v (left_with share v) at in
        let c = cut_same share v.next v.spare t fits in
        let o = r.sole t in
        omega arith;
    law = subst L (sym (seen_again s.words (set s.views id (left_with share v) ++ handed_over share v ∷ []) s.views
        (λ t.
        list_snoc t (set s.views id (left_with share v)) (handed_over share v)
        (append-nil (cond (eqb v.next t) [] []) ∙ nothing (eqb v.next t))
        ∙ list_set t s.views id v (left_with share v) at refl))) r.law;
  }

pub items_in-append : (t : ℕ) (ps qs : List Part) → items_in t (ps ++ qs) ≡ items_in t ps ++ items_in t qs
items_in-append t [] qs = refl
items_in-append t (p ∷ ps) qs = ap (λ l. cond (eqb p.number t) p.items [] ++ l) (items_in-append t ps qs)
    ∙ sym (append_assoc (cond (eqb p.number t) p.items []) (items_in t ps) (items_in t qs))

pub times_in-append : (t : ℕ) (ps qs : List Part) → times_in t (ps ++ qs) ≡ times_in t ps + times_in t qs
times_in-append t [] qs = omega arith
times_in-append t (p ∷ ps) qs = let r = times_in-append t ps qs in omega arith

total_two : (f : Journal → ℕ) (views : List Journal) (i j : ℕ) (v w : Journal) → j ≢ i → get_elem? views i ≡ some v
    → get_elem? views j ≡ some w → f v + f w ≤ sum_over f views
total_two f [] i j v w apart at_i at_j = absurd (some-ne-none v (sym at_i))
total_two f (x ∷ xs) zero zero v w apart at_i at_j = absurd (apart refl)
total_two f (x ∷ xs) zero (suc j) v w apart at_i at_j = let e : f x ≡ f v = ap f (some-injective x v at_i) in
    let k = total_at f xs j w at_j in omega arith
total_two f (x ∷ xs) (suc i) zero v w apart at_i at_j = let e : f x ≡ f w = ap f (some-injective x w at_j) in
    let k = total_at f xs i v at_i in omega arith
total_two f (x ∷ xs) (suc i) (suc j) v w apart at_i at_j = let r = total_two f xs i j v w
    (λ e. apart (ap suc e)) at_i at_j in omega arith

nobody_none : (t : ℕ) → owns t nobody ≡ 0
nobody_none t = dite (ℕ_discrete (one_within 0 0 t) 0) (λ (z : one_within 0 0 t ≡ 0). let k : one_within 0 0 t
    ≡ 0 = z in
    omega arith) (λ (z : one_within 0 0 t ≢ 0). let i = within_is 0 0 t z in absurd (omega arith))

-- the parts that a join hands over
abbrev parts_of : Journal → List Part
parts_of w = part_in w ∷ w.joined

-- what a task has that joined another
module _ (v w : Journal) (w_lives : w.lives ≡ true) (t : ℕ) where
  own_w : owns t w ≡ flag (eqb w.number t) + (one_within w.next (w.next + w.spare) t + times_in t w.joined)
  own_w = ap (λ b. flag (b && eqb w.number t) + (one_within w.next (w.next + w.spare) t + times_in t w.joined)) w_lives

  has_w : has_of t w ≡ items_in t (parts_of w)
  has_w = ap (λ b. cond (b && eqb w.number t) w.items [] ++ items_in t w.joined) w_lives

  sums : owns t (joined_with v w) ≡ owns t v + owns t w
  sums = let a = times_in-append t v.joined (parts_of w) in let b = own_w in omega arith

  has_both : has_of t (joined_with v w) ≡ has_of t v ++ items_in t (parts_of w)
  has_both = ap (λ l. cond (v.lives && eqb v.number t) v.items [] ++ l) (items_in-append t v.joined (parts_of w))
      ∙ sym (append_assoc (cond (v.lives && eqb v.number t) v.items []) (items_in t v.joined) (items_in t (parts_of w)))

  pub has_joined : owns t (joined_with v w) ≤ 1 → 1 ≤ owns t w → has_of t (joined_with v w) ≡ has_of t w
  has_joined sole mine =
      let all = sums in
      let v_none = has_none t v (omega arith) in
      has_both ∙ (ap (λ l. l ++ items_in t (parts_of w)) v_none ∙ sym has_w)

module _ (views : List Journal) (id other : ℕ) (v w : Journal) (apart : other ≢ id) (at : get_elem? views id ≡ some v)
    (there : get_elem? views other ≡ some w) (w_lives : w.lives
    ≡ true) (t : ℕ) (sole : sum_over (owns t) views ≤ 1) where
  abbrev both : Journal
  both = joined_with v w

  abbrev once : List Journal
  once = set views id both

  abbrev twice : List Journal
  twice = set once other nobody

  still_there : get_elem? once other ≡ some w
  still_there = set_else views id other both apart ∙ there

  pub joined_total : sum_over (owns t) twice ≡ sum_over (owns t) views
  joined_total =
      let a = total_set (owns t) views id v both at in
      let b = total_set (owns t) once other w nobody still_there in
      let c = sums v w w_lives t in
      let d = nobody_none t in
      omega arith

  joined_sole : sum_over (owns t) twice ≤ 1
  joined_sole = let a = joined_total in omega arith

  pub joined_trail : list_of t twice ≡ list_of t views
  joined_trail = dite (ℕ_discrete (times_in t (parts_of w)) 0)
      (λ (none : times_in t (parts_of w) ≡ 0).
      let gone = none_in t (parts_of w) none in
      list_set t once other w nobody still_there (sym (has_w v w w_lives t ∙ gone))
      ∙ list_set t views id v both at (has_both v w w_lives t ∙ (ap (λ l. has_of t v ++ l) gone
      ∙ append-nil (has_of t v))))
      (λ (some_part : times_in t (parts_of w) ≢ 0).
      let two = total_two (owns t) views id other v w apart at there in
      let b = own_w v w w_lives t in
      let v_none = has_none t v (omega arith) in
      let here : get_elem? twice id ≡ some both = set_else once other id nobody (λ k. apart (sym k))
      ∙ set_at views id v both at in
      let a = times_in-append t v.joined (parts_of w) in
      list_sole t twice id both here joined_sole (omega arith)
      ∙ (has_both v w w_lives t ∙ (ap (λ l. l ++ items_in t (parts_of w)) v_none
      ∙ (sym (has_w v w w_lives t) ∙ sym (list_sole t views other w there sole (omega arith))))))

module _ (L : Scene → Type 0) where
  pub merges : (id : ℕ) (v : Journal) (other : ℕ) (w : Journal) → w.lives ≡ true
      → Joins (Holds L) id v other w (joined_with v w) nobody
  merges id v other w lives s r at apart there =
      let was : get_elem? s.views other ≡ some w = sym (set_else s.views id other (joined_with v w) apart)
      ∙ there in record {
        sole = λ t. joined_total s.views id other v w apart at was lives t (at_most s.views r.sole t) ∙ r.sole t;
        law = subst L (sym (seen_again s.words (set (set s.views id (joined_with v w)) other nobody) s.views
            (λ t. joined_trail s.views id other v w apart at was lives t (at_most s.views r.sole t)))) r.law;
      }

pub alone : (t : ℕ) → sum_over (owns t) (fresh 0 1 (TASKS - 1) ∷ []) ≡ flag (ltb t TASKS)
alone t = by_place (ℕ_discrete 0 t) (dec_le (suc t) TASKS)
  where
    by_place : Dec (0 ≡ t) → Dec (t < TASKS) → sum_over (owns t) (fresh 0 1 (TASKS - 1) ∷ []) ≡ flag (ltb t TASKS)
    by_place (yes e) d =
        let k : flag (eqb 0 t) ≡ 1 = ap flag (eq-eqb 0 t e) in
        let a = within_low 1 TASKS t (omega arith) in
        let b : flag (ltb t TASKS) ≡ 1 = ap flag (lt-ltb t TASKS (omega arith)) in
        omega arith
    by_place (no n) (yes low) =
        let k : flag (eqb 0 t) ≡ 0 = ap flag (ne_eqb 0 t n) in
        let a = within_yes 1 TASKS t (omega (arith, n)) low in
        let b : flag (ltb t TASKS) ≡ 1 = ap flag (lt-ltb t TASKS low) in
        omega arith
    by_place (no n) (no high) =
        let k : flag (eqb 0 t) ≡ 0 = ap flag (ne_eqb 0 t n) in
        let past = lt_of_not-le high in
        let a = within_high 1 TASKS t (omega arith) in
        let b : flag (ltb t TASKS) ≡ 0 = ap flag (le-ltb t TASKS (omega arith)) in
        omega arith
