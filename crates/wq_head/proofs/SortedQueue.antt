-- A list of members that is sorted by rank is their queue.
use Rattle.std.proofs.Common.{◌∙◌, ap, sym, refl, subst, inl, inr, arith, eq-eqb, eqb-true, ne_eqb}
use Rattle.std.proofs.lemmas.List.{take_all, take-append-le, map-append}
use Rattle.std.proofs.lemmas.List.Elements.{All-nil, All-push, All-head, All-tail, All-map, All-weaker}
use Rattle.std.proofs.lemmas.List.Recursion.{is_count_by}
use Rattle.std.proofs.lemmas.List.Sorted.{IsPermutation-map, All-permutation, sum_by-IsPermutation}
use Rattle.std.specs.List.{All}
use Rattle.std.specs.List.Sorted.{IsPermutation, IsNonDecreasingBy}
use Rattle.std.specs.Prelude.{ℕ, zero, suc, ◌≡◌, ◌≢◌, ◌+◌, ◌*◌, ◌-◌, ◌/◌, ◌%◌, ◌<◌, ◌≤◌, ◌==◌}
use Rattle.std.specs.Prelude.{Bool, true, false, nat_lt, cond, if◌then◌else◌, Option, Some, None}
use Rattle.std.specs.Prelude.{List, [], ◌∷◌, ◌++◌, length, map, take, drop, slice_index, slice_index_or}
use Rattle.wait_model.specs.{declared.watches.Entry.Entry, declared.queues.Mark.Mark}
use Rattle.wait_model.specs.{declared.queues.Member.Member as Stand, EntryWords.place_shown, Words.entry_of}
use Rattle.wait_model.specs.Tables.{mark_of}
use Rattle.wait_model.specs.declared.layout.TheConstants.{TASKS, SLOTS, ENTRIES, MEMBERS, INDEXES, PLACES}
use Rattle.wait_model.specs.Queues.{rank, mark_add, IsIn, IsRisingFrom, IsInOrder}
use Rattle.wait_rule.specs.{Known.Known, Queues.index, Queues.place_by}
use Rattle.wait_rule.specs.Shown.{queue_with, queue_below, shown_queue, shown_entry}
use Rattle.wq_head.specs.{Members.IsWordOf, Members.place_marked, declared.lists.Member.Member}
use Rattle.wq_head.specs.Lists.{member_by, stand_in, rank_by, IsAsShown, AreAsShown}
use Rattle.wq_head.specs.declared.lists.Member.TheVariants as member
use Rattle.wq_head.proofs.{FirstAndLast.below_or, MemberStands.few, MemberStands.far, ListedMembers.numbers_with}
use Rattle.wq_head.proofs.{ListedMembers.numbers_below, ShownQueue.below_has, ShownQueue.below_in_order}

-- what a slice holds after it was written whole
pub refilled : (xs ws : List ℕ) → length ws ≡ length xs → take (length xs) (ws ++ drop (length ws) xs) ≡ ws
refilled xs ws same = take-append-le (length xs) ws (drop (length ws) xs) (omega arith)
    ∙ take_all (length xs) ws (omega arith)

-- how often a number stands in a list
counts : ℕ → List ℕ → ℕ
counts v [] = 0
counts v (x ∷ xs) = cond (x == v) (1 + counts v xs) (counts v xs)

counts_moved : (v : ℕ) (xs ys : List ℕ) → IsPermutation xs ys → counts v ys ≡ counts v xs
unfolding counts
counts_moved v xs ys moved = is_count_by (counts v) (λ x. x == v) refl (λ x xs. refl) ys
    ∙ (sum_by-IsPermutation (λ x. cond (x == v) 1 0) xs ys moved
    ∙ sym (is_count_by (counts v) (λ x. x == v) refl (λ x xs. refl) xs))

counts_here : (v : ℕ) (xs : List ℕ) → counts v (v ∷ xs) ≡ 1 + counts v xs
unfolding counts
counts_here v xs = ap (λ (b : Bool). cond b (1 + counts v xs) (counts v xs)) (eq-eqb v v refl)

counts_other : (v x : ℕ) (xs : List ℕ) → x ≢ v → counts v (x ∷ xs) ≡ counts v xs
unfolding counts
counts_other v x xs ne = ap (λ (b : Bool). cond b (1 + counts v xs) (counts v xs)) (ne_eqb x v ne)

-- from a number on, and none before the one before it
abbrev Rises : ℕ → List ℕ → Type 0
Rises low [] = Unit {0}
Rises low (x ∷ xs) = (low ≤ x) × Rises x xs

none_below : (v low : ℕ) (xs : List ℕ) → Rises low xs → v < low → counts v xs ≡ 0
unfolding counts
none_below v low [] r under = refl
none_below v low (x ∷ xs) r under =
    let over = r.0 in
    let ne : x ≢ v = omega arith in
    counts_other v x xs ne ∙ none_below v x xs r.1 (omega arith)

-- two rising lists in which each number stands equally often are one
tails_same : (x y : ℕ) (xs ys : List ℕ) → x ≡ y → ((v : ℕ) → counts v (x ∷ xs) ≡ counts v (y ∷ ys)) → (v : ℕ)
    → counts v xs ≡ counts v ys
tails_same x y xs ys is same v = by (x == v) refl
  where
    by : (b : Bool) → (x == v) ≡ b → counts v xs ≡ counts v ys
    by true t =
        let e : x ≡ v = eqb-true x v t in
        let one = counts_here v xs in
        let two = counts_here v ys in
        let both : counts v (v ∷ xs) ≡ counts v (v ∷ ys) =
        ap (λ (u : ℕ). counts v (u ∷ xs)) (sym e) ∙ (same v ∙ ap (λ (u : ℕ). counts v (u ∷ ys)) (sym is ∙ e)) in
        omega (arith, one, two, both)
    by false f =
        let ne : x ≢ v = λ e. (let t : (x == v) ≡ true = eq-eqb x v e in let z : true ≡ false = sym t ∙ f in cc) in
        sym (counts_other v x xs ne) ∙ (same v ∙ counts_other v y ys (λ e. ne (is ∙ e)))

one_order : (low least : ℕ) (xs ys : List ℕ) → Rises low xs → Rises least ys
    → ((v : ℕ) → counts v xs ≡ counts v ys) → xs ≡ ys
unfolding counts
one_order low least [] [] r s same = refl
one_order low least [] (y ∷ ys) r s same =
    let one = counts_here y ys in let none = same y in absurd (omega (arith, one, none))
one_order low least (x ∷ xs) [] r s same =
    let one = counts_here x xs in let none = same x in absurd (omega (arith, one, none))
one_order low least (x ∷ xs) (y ∷ ys) r s same = elim (below_or x y) [
  | inl under ↦
      let one = counts_here x xs in
      let none = none_below x y (y ∷ ys) (omega arith, s.1) under in
      let both = same x in absurd (omega (arith, one, none, both))
  | inr over ↦ elim (below_or y x) [
    | inl under ↦
        let one = counts_here y ys in
        let none = none_below y x (x ∷ xs) (omega arith, r.1) under in
        let both = same y in absurd (omega (arith, one, none, both))
    | inr more ↦
        let is : x ≡ y = omega arith in
        let rest : xs ≡ ys = one_order x y xs ys r.1 s.1 (tails_same x y xs ys is same) in
        λ i. is i ∷ rest i
  ]
]

-- a list that is sorted by a number rises by it
rises_by : (f : ℕ → ℕ) (xs : List ℕ) (low : ℕ) → ((i : ℕ) → i < length xs → low ≤ f (slice_index_or xs i 0))
    → IsNonDecreasingBy f xs → Rises low (map f xs)
rises_by f [] low over up = tt
rises_by f (x ∷ xs) low over up = (
  over 0 (omega arith),
  rises_by f xs (f x) (λ i small. up 0 (suc i) 0 (omega arith) (omega arith))
      (λ i j d below small. up (suc i) (suc j) d (omega arith) (omega arith)),
)

-- and so do the ranks of a queue
rises_rank : (low : ℕ) (q : List Stand) → IsRisingFrom low q → IsInOrder q → Rises low (map rank q)
rises_rank low [] r order = tt
rises_rank low (m ∷ ms) r order = (let l = r.0 in omega arith, rises_rank (rank m) ms order.0 order.1)

rises_queue : (q : List Stand) → IsInOrder q → Rises 0 (map rank q)
rises_queue [] order = tt
rises_queue (m ∷ ms) order = (omega arith, rises_rank (rank m) ms order.0 order.1)

-- the ranks of a queue are those of its members
counts_both : (v x y : ℕ) (xs : List ℕ) → counts v (x ∷ y ∷ xs) ≡ counts v (y ∷ x ∷ xs)
unfolding counts
counts_both v x y xs = by (x == v) (y == v)
  where
    by : (a b : Bool) → cond a (1 + cond b (1 + counts v xs) (counts v xs)) (cond b (1 + counts v xs) (counts v xs))
        ≡ cond b (1 + cond a (1 + counts v xs) (counts v xs)) (cond a (1 + counts v xs) (counts v xs))
    by true true = refl
    by true false = refl
    by false true = refl
    by false false = refl

counts_more : (v x : ℕ) (xs ys : List ℕ) → counts v xs ≡ counts v ys → counts v (x ∷ xs) ≡ counts v (x ∷ ys)
unfolding counts
counts_more v x xs ys same = ap (λ (n : ℕ). cond (x == v) (1 + n) n) same

counts_marked : (v : ℕ) (b : Stand) (q : List Stand) → counts v (map rank (mark_add b q)) ≡ counts v (rank b ∷ map
    rank q)
counts_marked v b [] = refl
counts_marked v b (m ∷ ms) = by (counts_marked v b ms) (nat_lt (rank m) (rank b))
  where
    by : counts v (map rank (mark_add b ms)) ≡ counts v (rank b ∷ map rank ms) → (t : Bool)
        → counts v (map rank (if t then m ∷ mark_add b ms else b ∷ m ∷ ms))
        ≡ counts v (rank b ∷ map rank (m ∷ ms))
    by rest true = counts_more v (rank m) (map rank (mark_add b ms)) (rank b ∷ map rank ms) rest
        ∙ counts_both v (rank m) (rank b) (map rank ms)
    by rest false = refl

counts_last : (v x : ℕ) (xs : List ℕ) → counts v (xs ++ x ∷ []) ≡ counts v (x ∷ xs)
counts_last v x [] = refl
counts_last v x (y ∷ ys) = counts_more v y (ys ++ x ∷ []) (x ∷ ys) (counts_last v x ys) ∙ counts_both v y x ys

module _ (at : ℕ → Option ℕ) (f : ℕ → ℕ) where
  abbrev Ranks : ℕ → Type 0
  Ranks n = (m p : ℕ) → m < n → at m ≡ Some p → f m ≡ rank (record { at = m; place = p })

  counts_with : (v n : ℕ) (o : Option ℕ) → at n ≡ o → Ranks (suc n)
      → counts v (map f (numbers_below at n)) ≡ counts v (map rank (queue_below at n))
      → counts v (map f (numbers_with n o (numbers_below at n))) ≡ counts v (map rank (queue_with n o (queue_below
      at n)))
  counts_with v n None is ranks same = same
  counts_with v n (Some p) is ranks same =
      ap (counts v) (map-append f (numbers_below at n) (n ∷ []))
      ∙ (counts_last v (f n) (map f (numbers_below at n))
      ∙ (counts_more v (f n) (map f (numbers_below at n)) (map rank (queue_below at n)) same
      ∙ (ap (λ (r : ℕ). counts v (r ∷ map rank (queue_below at n))) (ranks n p (omega arith) is)
      ∙ sym (counts_marked v (record { at = n; place = p }) (queue_below at n)))))

  counts_below : (v n : ℕ) → Ranks n → counts v (map f (numbers_below at n)) ≡ counts v (map rank (queue_below at n))
  counts_below v zero ranks = refl
  counts_below v (suc n) ranks = counts_with v n (at n) refl ranks
      (counts_below v n (λ m p under. ranks m p (omega arith)))

-- two members of one rank are one
one_stand : (a b : Stand) → a.at < INDEXES → b.at < INDEXES → rank a ≡ rank b → a ≡ b
one_stand a b small few is =
    let at : a.at ≡ b.at = omega arith in
    let place : a.place ≡ b.place = omega arith in
    λ i. record { at = at i; place = place i }

same_stands : (f : ℕ → ℕ) (g : ℕ → Stand) (ms : List ℕ) (q : List Stand)
    → All (λ m. (f m ≡ rank (g m)) × ((g m).at < INDEXES)) ms → ((x : Stand) → IsIn x q → x.at < INDEXES)
    → map f ms ≡ map rank q → map g ms ≡ q
same_stands f g [] [] fits small is = refl
same_stands f g [] (x ∷ q) fits small is = absurd (cc)
same_stands f g (m ∷ ms) [] fits small is = absurd (cc)
same_stands f g (m ∷ ms) (x ∷ q) fits small is =
    let here = All-head (λ n. (f n ≡ rank (g n)) × ((g n).at < INDEXES)) m ms fits in
    let head : f m ≡ rank x = cc in
    let rest : map f ms ≡ map rank q = cc in
    let one : g m ≡ x = one_stand (g m) x here.1 (small x (inl refl)) (sym here.0 ∙ head) in
    let more : map g ms ≡ q = same_stands f g ms q
    (All-tail (λ n. (f n ≡ rank (g n)) × ((g n).at < INDEXES)) m ms fits) (λ y i. small y (inr i)) rest in
    λ i. one i ∷ more i

-- the place in a word
some_place : {A : Type 0} (place : A → ℕ) (p : ℕ) (b : Bool) (f e : A) → p ≡ place f
    → (if b then None else Some f) ≡ Some e
    → p ≡ place e
some_place place p true f e at none = absurd (cc)
some_place place p false f e at some = at ∙ ap place (let same : f ≡ e = cc in same)

pub entry_place_is : (w : ℕ) (e : Entry) → entry_of w ≡ Some e → w % PLACES ≡ e.place
unfolding entry_of
entry_place_is w e is = some_place (λ (f : Entry). f.place) (w % PLACES) (w == 0) _ e refl is

pub mark_place_is : (w : ℕ) (m : Mark) → mark_of w ≡ Some m → w % PLACES ≡ m.place
unfolding mark_of
mark_place_is w m is = some_place (λ (f : Mark). f.place) (w % PLACES) (w == 0) _ m refl is

-- a member of the hold by its word
module _ (k : Known) (words : List ℕ) where
  abbrev pub Shows : ℕ → Type 0
  Shows m = (p : ℕ) × (m < MEMBERS) × (place_by k m ≡ Some p) × IsWordOf k m (slice_index words m) p

  abbrev word : ℕ → ℕ
  word m = slice_index words m

  abbrev by_test : ℕ → Bool → Member
  by_test m b = if b then member.Entry (m / SLOTS) (m % SLOTS) (record { 0 = word m })
      else member.Mark ((m - ENTRIES) % TASKS) (word m)

  is_there : (m : ℕ) (s : Shows m) → stand_in (member_by words m) ≡ record { at = m; place = s.0 }
  is_there m s = elim (below_or m ENTRIES) [
    | inl low ↦
        let e = s.3.0 low in
        let number : index (m / SLOTS) (m % SLOTS) ≡ m = omega arith in
        ap (λ (b : Bool). stand_in (by_test m b)) (few m low)
        ∙ (λ i. record { at = number i; place = (ap place_shown e.1 ∙ e.3) i })
    | inr high ↦
        let small = s.1 in
        let number : ENTRIES + (m - ENTRIES) % TASKS ≡ m = omega arith in
        ap (λ (b : Bool). stand_in (by_test m b)) (far m high)
        ∙ (λ i. record { at = number i; place = ap place_marked (s.3.1 high) i })
  ]

  ranks_it : (m : ℕ) (s : Shows m) → rank_by words m ≡ rank (record { at = m; place = s.0 })
  ranks_it m s = ap (λ (p : ℕ). INDEXES * p + m) (elim (below_or m ENTRIES) [
    | inl low ↦ let e = s.3.0 low in entry_place_is (word m) e.0 e.1 ∙ e.3
    | inr high ↦ mark_place_is (word m) (record { head = k.at; place = s.0 }) (s.3.1 high)
  ])

  is_as_shown : (m : ℕ) → Shows m → IsAsShown k (member_by words m)
  is_as_shown m s = elim (below_or m ENTRIES) [
    | inl low ↦
        let e = s.3.0 low in
        let number : index (m / SLOTS) (m % SLOTS) ≡ m = omega arith in
        subst (λ (b : Bool). IsAsShown k (by_test m b)) (sym (few m low))
        (ap (shown_entry k) number ∙ (e.2 ∙ sym e.1))
    | inr high ↦ subst (λ (b : Bool). IsAsShown k (by_test m b)) (sym (far m high))
        (s.3.1 high ∙ λ i. Some (record { head = k.at; place = sym (ap place_marked (s.3.1 high)) i }))
  ]

  shows_with : (n : ℕ) (o : Option ℕ) → place_by k n ≡ o → ((p : ℕ) → o ≡ Some p → Shows n) → (ms : List ℕ)
      → All Shows ms
      → All Shows (numbers_with n o ms)
  shows_with n None is here ms s = s
  shows_with n (Some p) is here ms s = All-push Shows ms n s (here p refl)

  pub shows_below : (n : ℕ) → n ≤ MEMBERS
      → ((m p : ℕ) → m < n → place_by k m ≡ Some p → IsWordOf k m (word m) p) → All Shows (numbers_below (place_by k) n)
  shows_below zero low reads = All-nil Shows
  shows_below (suc n) low reads = shows_with n (place_by k n) refl
      (λ p is. (p, omega arith, is, reads n p (omega arith) is)) (numbers_below (place_by k) n)
      (shows_below n (omega arith) (λ m p under. reads m p (omega arith)))

  module _ (reads : (m p : ℕ) → m < MEMBERS → place_by k m ≡ Some p → IsWordOf k m (word m) p) (sorted : List ℕ)
      (moved : IsPermutation (numbers_below (place_by k) MEMBERS) sorted) (up : IsNonDecreasingBy (rank_by words)
      sorted) where
    all_shown : All Shows sorted
    all_shown = All-permutation Shows (numbers_below (place_by k) MEMBERS) sorted moved (shows_below MEMBERS (omega
        arith) reads)

    abbrev queue : List Stand
    queue = queue_below (place_by k) MEMBERS

    in_order : IsInOrder queue
    in_order = below_in_order (place_by k) MEMBERS (omega arith)

    one_rank : map (rank_by words) sorted ≡ map rank queue
    one_rank = one_order 0 0 (map (rank_by words) sorted) (map rank queue)
        (rises_by (rank_by words) sorted 0 (λ i small. omega arith) up) (rises_queue queue in_order)
        (λ v. counts_moved v (map (rank_by words) (numbers_below (place_by k) MEMBERS)) (map (rank_by words) sorted)
        (IsPermutation-map (rank_by words) (numbers_below (place_by k) MEMBERS) sorted moved)
        ∙ counts_below (place_by k) (rank_by words) v MEMBERS
        (λ m p low is. ranks_it m (p, low, is, reads m p low is)))

    abbrev stand : ℕ → Stand
    stand m = stand_in (member_by words m)

    fits : All (λ m. (rank_by words m ≡ rank (stand m)) × ((stand m).at < INDEXES)) sorted
    fits = All-weaker Shows (λ m. (rank_by words m ≡ rank (stand m)) × ((stand m).at < INDEXES))
        (λ m s.
        let there = is_there m s in
        let low = s.1 in
        let at : (stand m).at ≡ m = ap (λ (x : Stand). x.at) there in
        (ranks_it m s ∙ sym (ap rank there), omega (arith, at, low))) sorted all_shown

    is_queue : map stand sorted ≡ queue
    is_queue = same_stands (rank_by words) stand sorted queue fits
        (λ x i. let l = (below_has (place_by k) MEMBERS x i).0 in omega arith) one_rank

    maps_twice : (ms : List ℕ) → map stand_in (map (member_by words) ms) ≡ map stand ms
    maps_twice [] = refl
    maps_twice (m ∷ ms) = ap (λ (q : List Stand). stand m ∷ q) (maps_twice ms)

    pub list_is_queue : map stand_in (map (member_by words) sorted) ≡ shown_queue k
    unfolding shown_queue
    list_is_queue = maps_twice sorted ∙ is_queue

    pub list_is_shown : AreAsShown k (map (member_by words) sorted)
    list_is_shown = All-map (IsAsShown k) (member_by words) sorted
        (All-weaker Shows (λ m. IsAsShown k (member_by words m)) is_as_shown sorted all_shown)
