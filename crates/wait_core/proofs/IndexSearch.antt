-- What a search in the list of members finds.
use Rattle.std.specs.Prelude.{◌≡◌, ℕ, ◌+◌, ◌<◌, ◌≤◌, Bool, true, false, ◌&&◌, ◌==◌, nat_lt, nat_le, List, length}
use Rattle.std.specs.Prelude.{slice_index_or, ◌⊎◌, ◌≢◌, ◌*◌, min, Option, Some, None}
use Rattle.wait_model.specs.{declared.layout.TheConstants.MEMBERS, declared.layout.TheConstants.INDEXES}
use Rattle.wait_model.specs.{declared.queues.Mark.Mark, declared.queues.Member.Member, Queues.rank}
use Rattle.wait_core.specs.{declared.index.TheConstants.RANKS, declared.scan.Span.Span}
use Rattle.wait_core.specs.declared.index.RankedMember.{RankedMember}
use Rattle.wait_core.specs.Scan.{marked_member, is_in_span, prefers, IsPick, IsPicked}
use Rattle.wait_core.specs.Index.{IsSorted, IsListedMember, IsIndex, key, key_at, standing_of}
use Rattle.std.proofs.Common.{refl, arith, ap, sym, ◌∙◌, subst, inl, inr}
use Rattle.std.proofs.lemmas.List.{get_or_default}
use Rattle.std.proofs.lemmas.Bool.Decides.{nat_tests}

-- what a read past the end of the list gives
abbrev pub none : RankedMember
none = record { head = 0; rank = 0 }

-- below, at or above
pub sides : (i j : ℕ) → (i < j) ⊎ ((i ≡ j) ⊎ (j < i))
sides i j = by (nat_lt i j) (nat_lt j i) refl refl
  where
    by : (a b : Bool) → nat_lt i j ≡ a → nat_lt j i ≡ b → (i < j) ⊎ ((i ≡ j) ⊎ (j < i))
    by true b p q = inl (grind (arith, nat_tests))
    by false true p q = inr (inr (grind (arith, nat_tests)))
    by false false p q = inr (inl (grind (arith, nat_tests)))

-- a member that counts, by its parts
pub counted_of : (span : Span) (x : ℕ) (k : Mark) → is_in_span span x k ≡ true → (k.head ≡ span.head)
    × (span.low ≤ rank (marked_member x k)) × (rank (marked_member x k) < span.high)
counted_of span x k = by (k.head == span.head) (nat_le span.low (rank (marked_member x k)))
    (nat_lt (rank (marked_member x k)) span.high) refl refl refl
  where
    by : (a b c : Bool) → (k.head == span.head) ≡ a → nat_le span.low (rank (marked_member x k)) ≡ b
        → nat_lt (rank (marked_member x k)) span.high ≡ c → (a && (b && c)) ≡ true → (k.head ≡ span.head)
        × (span.low ≤ rank (marked_member x k)) × (rank (marked_member x k) < span.high)
    by true true true p q r h = (grind (arith, nat_tests), grind (arith, nat_tests), grind (arith, nat_tests))
    by true true false p q r h = absurd (cc)
    by true false c p q r h = absurd (cc)
    by false b c p q r h = absurd (cc)

pub counts_is : (span : Span) (x : ℕ) (k : Mark) → k.head ≡ span.head → span.low ≤ rank (marked_member x k)
    → rank (marked_member x k) < span.high → is_in_span span x k ≡ true
counts_is span x k e l u =
    let a : (k.head == span.head) ≡ true = grind (arith, nat_tests) in
    let b : nat_le span.low (rank (marked_member x k)) ≡ true = grind (arith, nat_tests) in
    let c : nat_lt (rank (marked_member x k)) span.high ≡ true = grind (arith, nat_tests) in
    rw (a, b, c) refl

-- an element of the list that a look takes
pub record IsTakenOut (span : Span) (count : ℕ) (a : RankedMember) : Type 0 where
  pub head : a.head ≡ span.head
  pub low : span.low ≤ a.rank
  pub high : a.rank < span.high
  pub number : (x p : ℕ) → x < INDEXES → a.rank ≡ INDEXES * p + x → x < count

module _ (f : ℕ → Option Mark) (index : List RankedMember) (h : IsIndex f index) (span : Span) (count : ℕ)
    (few : count ≤ MEMBERS) where
  -- a member that counts is in the list, and a look takes it
  taken : (x : ℕ) (k : Mark) → x < count → is_in_span span x k ≡ true → IsTakenOut span count (standing_of x k)
  taken x k lt c =
      let p = counted_of span x k c in record {
        head = p.0;
        low = p.1;
        high = p.2;
        number = λ y q small e. (let e' : INDEXES * k.place + x ≡ INDEXES * q + y = e in omega arith);
      }

  -- nothing is found where no element is taken
  pub none_taken : ((i : ℕ) (d : RankedMember) → i < length index
      → IsTakenOut span count (slice_index_or index i d) → ⊥)
      → IsPicked f count span None
  none_taken out = λ x k lt s. by x k lt s (is_in_span span x k) refl
    where
      by : (x : ℕ) (k : Mark) → x < count → f x ≡ Some k → (b : Bool) → is_in_span span x k ≡ b
          → is_in_span span x k ≡ false
      by x k lt s false c = c
      by x k lt s true c =
          let i = h.holds x k (omega arith) s in
          absurd (out i.0 (standing_of x k) i.1
          (subst (IsTakenOut span count) (sym i.2) (taken x k lt c)))

  module _ (i : ℕ) (a : RankedMember) (inside : i < length index) (is : (d : RankedMember)
      → a ≡ slice_index_or index i d)
      (b : Member) (small : b.at < count) (same : a.rank ≡ INDEXES * b.place + b.at) (t : IsTakenOut span count a)
      (best : (x : ℕ) (k : Mark) → x < count → f x ≡ Some k → is_in_span span x k ≡ true
      → prefers span (rank (marked_member x k)) (rank b) ≡ false) where
    pub some_taken : IsPick f count span b
    some_taken =
        let q : IsListedMember f a = subst (IsListedMember f) (sym (is a)) (h.shown i a inside) in
        let n : q.number ≡ b.at = (let r = q.rank in let s = q.small in omega arith) in
        let p : q.stand.place ≡ b.place = (let r = q.rank in let s = q.small in omega arith) in
        record {
          stand = q.stand;
          stands = subst (λ (x : ℕ). f x ≡ Some q.stand) n q.stands;
          place = p;
          inside = small;
          counted = counts_is span b.at q.stand (sym q.head ∙ t.head)
              (let l = t.low in omega arith) (let l = t.high in omega arith);
          best = best;
        }

-- a look at one element of the list
module _ (index : List RankedMember) (o : IsSorted index) (at : ℕ) (inside : at < length index) (a : RankedMember)
    (is : (d : RankedMember) → a ≡ slice_index_or index at d) where
  from_here : (i : ℕ) (d : RankedMember) → at ≤ i → i < length index → key a ≤ key (slice_index_or index i d)
  from_here i d le lt = elim (sides at i) [
    | inl l ↦ let up = o.rises at i d l lt in let e = ap key (is d) in omega arith
    | inr r ↦ elim r [
      | inl e ↦ subst (λ (j : ℕ). key a ≤ key (slice_index_or index j d)) e
          (let z = ap key (is d) in omega arith)
      | inr g ↦ absurd (omega arith)
    ]
  ]

  to_here : (i : ℕ) (d : RankedMember) → i ≤ at → key (slice_index_or index i d) ≤ key a
  to_here i d le = elim (sides i at) [
    | inl l ↦ let up = o.rises i at d l inside in let e = ap key (is d) in omega arith
    | inr r ↦ elim r [
      | inl e ↦ subst (λ (j : ℕ). key (slice_index_or index j d) ≤ key a) (sym e)
          (let z = ap key (is d) in omega arith)
      | inr g ↦ absurd (omega arith)
    ]
  ]

  small_rank : a.rank < RANKS
  small_rank = let r = o.ranks at a inside in let e = ap (λ (x : RankedMember). x.rank) (is a) in omega arith

  module _ (span : Span) (count : ℕ) where
    -- an element whose number is too high is not taken
    not_taken : (x p : ℕ) → x < INDEXES → a.rank ≡ INDEXES * p + x → count ≤ x → (i : ℕ) (d : RankedMember) → i ≡ at
        → IsTakenOut span count (slice_index_or index i d) → ⊥
    not_taken x p small e le i d same t =
        let u : IsTakenOut span count a = subst (IsTakenOut span count) (sym (is d))
        (subst (λ (j : ℕ). IsTakenOut span count (slice_index_or index j d)) same t) in
        let n = u.number x p small e in
        omega arith

    module _ (passed : (i : ℕ) (d : RankedMember) → i < at → IsTakenOut span count (slice_index_or index i d) → ⊥)
        (low : ℕ) (behind : (i : ℕ) (d : RankedMember) → at ≤ i → i < length index
        → key_at span.head low ≤ key (slice_index_or index i d)) where
      low_here : key_at span.head low ≤ key a
      low_here = let b = behind at a (omega arith) inside in let e = ap key (is a) in omega arith

      first_ends : (key_at span.head span.high ≤ key a) ⊎ (a.head ≢ span.head)
          → (i : ℕ) (d : RankedMember) → i < length index → IsTakenOut span count (slice_index_or index i d) → ⊥
      first_ends why i d lt t =
          let r = o.ranks i d lt in
          let h = t.head in
          let u = t.high in
          let l = low_here in
          let s = small_rank in
          elim (sides i at) [
            | inl l ↦ passed i d l t
            | inr r ↦
                let le : at ≤ i = elim r [ inl e ↦ omega arith | inr g ↦ omega arith ] in
                let f = from_here i d le lt in
                elim why [ inl w ↦ omega arith | inr w ↦ omega arith ]
          ]

      pub first_ends_head : a.head ≢ span.head → (f : ℕ → Option Mark) → IsIndex f index → count ≤ MEMBERS
          → IsPicked f count span None
      first_ends_head ne f h few = none_taken f index h span count few (first_ends (inr ne))

      pub first_ends_rank : a.head ≡ span.head → span.high ≤ a.rank → (f : ℕ → Option Mark) → IsIndex f index
          → count ≤ MEMBERS → IsPicked f count span None
      first_ends_rank e le f h few = none_taken f index h span count few (first_ends (inl (omega arith)))

      pub first_passes : (x p : ℕ) → x < INDEXES → a.rank ≡ INDEXES * p + x → count ≤ x → (i : ℕ) (d : RankedMember)
          → i < at + 1 → IsTakenOut span count (slice_index_or index i d) → ⊥
      first_passes x p small e le i d lt t = elim (sides i at) [
        | inl l ↦ passed i d l t
        | inr r ↦ elim r [
          | inl z ↦ not_taken x p small e le i d z t
          | inr g ↦ absurd (omega arith)
        ]
      ]

      pub first_takes : span.last ≡ false → low ≡ min span.low RANKS → a.head ≡ span.head → a.rank < span.high
          → (b : Member) → a.rank ≡ INDEXES * b.place + b.at → b.at < count → (f : ℕ → Option Mark)
          → IsIndex f index → count ≤ MEMBERS → IsPick f count span b
      first_takes first is_low e u b same small f h few =
          some_taken f index h span count few at a inside is b small same (record {
            head = e;
            low = (let l = low_here in let s = small_rank in omega arith);
            high = u;
            number = λ y q lt z. omega arith;
          }) (λ x k lt s c.
          let t = taken f index h span count few x k lt c in
          let i = h.holds x k (omega arith) s in
          let never : nat_lt (rank (marked_member x k)) (rank b) ≡ false = elim (sides i.0 at) [
            | inl l ↦ absurd (passed i.0 (standing_of x k) l
                (subst (IsTakenOut span count) (sym i.2) t))
            | inr r ↦
                let le : at ≤ i.0 = elim r [ inl z ↦ omega arith | inr g ↦ omega arith ] in
                let up = from_here i.0 (standing_of x k) le i.1 in
                let z = ap key i.2 in
                let hd : k.head ≡ span.head = t.head in
                let le' : rank b ≤ rank (marked_member x k) = omega arith in
                grind (arith, nat_tests)
          ] in
          rw first never)

    module _ (passed : (i : ℕ) (d : RankedMember) → at + 1 ≤ i → i < length index
        → IsTakenOut span count (slice_index_or index i d) → ⊥)
        (high : ℕ) (most : high ≤ RANKS) (before : (i : ℕ) (d : RankedMember) → i < at + 1
        → key (slice_index_or index i d) < key_at span.head high) where
      high_here : key a < key_at span.head high
      high_here = let b = before at a (omega arith) in let e = ap key (is a) in omega arith

      last_ends : (key a < key_at span.head span.low) ⊎ (a.head ≢ span.head)
          → (i : ℕ) (d : RankedMember) → i < length index → IsTakenOut span count (slice_index_or index i d) → ⊥
      last_ends why i d lt t =
          let h = t.head in
          let u = t.low in
          let l = high_here in
          let s = small_rank in
          elim (sides at i) [
            | inl l ↦ passed i d (omega arith) lt t
            | inr r ↦
                let le : i ≤ at = elim r [ inl e ↦ omega arith | inr g ↦ omega arith ] in
                let f = to_here i d le in
                elim why [ inl w ↦ omega arith | inr w ↦ omega arith ]
          ]

      pub last_ends_head : a.head ≢ span.head → (f : ℕ → Option Mark) → IsIndex f index → count ≤ MEMBERS
          → IsPicked f count span None
      last_ends_head ne f h few = none_taken f index h span count few (last_ends (inr ne))

      pub last_ends_rank : a.head ≡ span.head → a.rank < span.low → (f : ℕ → Option Mark) → IsIndex f index
          → count ≤ MEMBERS → IsPicked f count span None
      last_ends_rank e lt f h few = none_taken f index h span count few (last_ends (inl (omega arith)))

      pub last_passes : (x p : ℕ) → x < INDEXES → a.rank ≡ INDEXES * p + x → count ≤ x → (i : ℕ) (d : RankedMember)
          → at ≤ i → i < length index → IsTakenOut span count (slice_index_or index i d) → ⊥
      last_passes x p small e le i d ge lt t = elim (sides at i) [
        | inl l ↦ passed i d (omega arith) lt t
        | inr r ↦ elim r [
          | inl z ↦ not_taken x p small e le i d (sym z) t
          | inr g ↦ absurd (omega arith)
        ]
      ]

      pub last_takes : span.last ≡ true → high ≡ min span.high RANKS → a.head ≡ span.head → span.low ≤ a.rank
          → (b : Member) → a.rank ≡ INDEXES * b.place + b.at → b.at < count → (f : ℕ → Option Mark)
          → IsIndex f index → count ≤ MEMBERS → IsPick f count span b
      last_takes last is_high e u b same small f h few =
          some_taken f index h span count few at a inside is b small same (record {
            head = e;
            low = u;
            high = (let l = high_here in let s = small_rank in omega arith);
            number = λ y q lt z. omega arith;
          }) (λ x k lt s c.
          let t = taken f index h span count few x k lt c in
          let i = h.holds x k (omega arith) s in
          let never : nat_lt (rank b) (rank (marked_member x k)) ≡ false = elim (sides at i.0) [
            | inl l ↦ absurd (passed i.0 (standing_of x k) (omega arith) i.1
                (subst (IsTakenOut span count) (sym i.2) t))
            | inr r ↦
                let le : i.0 ≤ at = elim r [ inl z ↦ omega arith | inr g ↦ omega arith ] in
                let up = to_here i.0 (standing_of x k) le in
                let z = ap key i.2 in
                let hd : k.head ≡ span.head = t.head in
                let le' : rank (marked_member x k) ≤ rank b = omega arith in
                grind (arith, nat_tests)
          ] in
          rw last never)

-- a test of one element says the same of all before it, or of all behind it
module _ (index : List RankedMember) (o : IsSorted index) (at limit : ℕ) (inside : at < length index)
    (d : RankedMember) where
  pub up_to : nat_lt (key (slice_index_or index at d)) limit ≡ true → (i : ℕ) (e : RankedMember) → i < at + 1
      → key (slice_index_or index i e) < limit
  up_to t i e lt =
      let h : key (slice_index_or index at d) < limit = grind (arith, nat_tests) in
      let le = to_here index o at inside (slice_index_or index at d)
      (λ x. get_or_default index at d x inside) i e (omega arith) in
      omega arith

  pub down_to : nat_lt (key (slice_index_or index at d)) limit ≡ false → (i : ℕ) (e : RankedMember) → at ≤ i
      → i < length index → limit ≤ key (slice_index_or index i e)
  down_to t i e ge lt =
      let h : limit ≤ key (slice_index_or index at d) = grind (arith, nat_tests) in
      let le = from_here index o at inside (slice_index_or index at d)
      (λ x. get_or_default index at d x inside) i e ge lt in
      omega arith
