-- The list of members when one is put in or taken out.
use Rattle.std.specs.Prelude.{◌≡◌, ◌≢◌, ℕ, ◌+◌, ◌-◌, ◌*◌, ◌%◌, ◌<◌, ◌≤◌, ◌⊎◌, ◌==◌, Bool, true, false, if◌then◌else◌}
use Rattle.std.specs.Prelude.{nat_lt, List, [], length, slice_index_or, slice_index, slice_set, Option, Some, None}
use Rattle.wait_model.specs.{declared.queues.Mark.Mark, Functions.put, Queues.stand_by, Words.entry_of, Tables.mark_of}
use Rattle.wait_model.specs.Tables.{start}
use Rattle.wait_model.specs.declared.layout.TheConstants.{ENTRIES, MEMBERS, PLAIN_CONDITIONS, FIRST_DONE}
use Rattle.wait_model.specs.declared.layout.TheConstants.{FIRST_BIT_WORD, FIRST_VARIABLE, ENTRY_AT, BOOKMARK_AT, WORDS}
use Rattle.wait_model.specs.declared.layout.TheConstants.{PLACES, INDEXES}
use Rattle.wait_model.specs.Locations.{Location, Entry, Bookmark, Plain, Done, Bits, Var, Shows}
use Rattle.wait_model.specs.Locations.{cond_at}
use Rattle.wait_core.specs.{declared.index.TheConstants.RANKS, declared.index.RankedMember.RankedMember}
use Rattle.wait_core.specs.Scan.{entry_in_words, shown_mark, shown_stand}
use Rattle.wait_core.specs.Index.{IsListedMember, IsIndex, class_of, key, key_at, standing_of}
use Rattle.std.specs.List.{Contains, insert, remove}
use Rattle.std.proofs.Common.{zero, suc, refl, arith, ap, sym, ◌∙◌, subst, inl, inr}
use Rattle.std.proofs.lemmas.Bool.Decides.{nat_tests, eqb_tells}
use Rattle.std.proofs.lemmas.List.{get_or_default, get_or-set_other}
use Rattle.std.proofs.lemmas.Grind.{get_or-set_at}
use Rattle.std.proofs.lemmas.List.Edits.{length-insert, get_or-insert_below, get_or-insert_at, get_or-insert_above}
use Rattle.std.proofs.lemmas.List.Edits.{length-remove, get_or-remove_below, get_or-remove_above}
use Rattle.wait_model.proofs.{Functions.put_other, WordLaws.DecodedWords.none_read, WordLaws.DecodedWords.no_mark_read}
use Rattle.wait_core.specs.declared.index.Class.TheVariants as class
use Rattle.wait_core.proofs.IndexSearch.{sides, none}

-- so many different numbers below m are at most m: the one that is m gives way to the last
module _ (m n : ℕ) (g : ℕ → ℕ) where
  abbrev moved : ℕ → ℕ
  moved i = if g i == m then g n else g i

  cases : (i : ℕ) → ((g i ≡ m) × (moved i ≡ g n)) ⊎ ((g i ≢ m) × (moved i ≡ g i))
  cases i = elim (eqb_tells (g i) m) [
    | inl e ↦ inl (e.1, ap (λ (b : Bool). if b then g n else g i) e.0)
    | inr e ↦ inr (e.1, ap (λ (b : Bool). if b then g n else g i) e.0)
  ]

  module _ (small : (i : ℕ) → i < suc n → g i < suc m)
      (apart : (i j : ℕ) → i < j → j < suc n → g i ≡ g j → ⊥) where
    moved_small : (i : ℕ) → i < n → moved i < m
    moved_small i lt = elim (cases i) [
      | inl e ↦
          let s : g n < suc m = small n (omega arith) in
          let ne : g n ≢ m = λ z. apart i n lt (omega arith) (e.0 ∙ sym z) in
          let l : g n < m = omega arith in
          rw e.1 l
      | inr e ↦
          let s : g i < suc m = small i (omega arith) in
          let ne : g i ≢ m = e.0 in
          let l : g i < m = omega arith in
          rw e.1 l
    ]

    moved_apart : (i j : ℕ) → i < j → j < n → moved i ≡ moved j → ⊥
    moved_apart i j lt inside z = elim (cases i) [
      | inl e ↦ elim (cases j) [
        | inl f ↦ apart i j lt (omega arith) (e.0 ∙ sym f.0)
        | inr f ↦ apart j n inside (omega arith) (sym f.1 ∙ sym z ∙ e.1)
      ]
      | inr e ↦ elim (cases j) [
        | inl f ↦ apart i n (omega arith) (omega arith) (sym e.1 ∙ z ∙ f.1)
        | inr f ↦ apart i j lt (omega arith) (sym e.1 ∙ z ∙ f.1)
      ]
    ]

few_apart : (m n : ℕ) (g : ℕ → ℕ) → ((i : ℕ) → i < n → g i < m)
    → ((i j : ℕ) → i < j → j < n → g i ≡ g j → ⊥) → n ≤ m
few_apart zero zero g small apart = omega arith
few_apart zero (suc n) g small apart = let z : g 0 < 0 = small 0 (omega arith) in omega arith
few_apart (suc m) zero g small apart = omega arith
few_apart (suc m) (suc n) g small apart =
    let fewer : n ≤ m = few_apart m n (moved m n g) (moved_small m n g small apart)
    (moved_apart m n g small apart) in omega arith

-- two elements of one member have one key
same_key : (f : ℕ → Option Mark) (a b : RankedMember) (p : IsListedMember f a) (q : IsListedMember f b)
    → p.number ≡ q.number → key a ≡ key b
same_key f a b p q e =
    let s : Some p.stand ≡ Some q.stand = sym p.stands ∙ ap f e ∙ q.stands in
    let k : p.stand ≡ q.stand = cc in
    let h : p.stand.head ≡ q.stand.head = ap (λ (m : Mark). m.head) k in
    let l : p.stand.place ≡ q.stand.place = ap (λ (m : Mark). m.place) k in
    let ph = p.head in
    let pr = p.rank in
    let qh = q.head in
    let qr = q.rank in
    omega arith

-- the list has room for all members
pub few_members : (f : ℕ → Option Mark) (index : List RankedMember) → IsIndex f index → length index ≤ MEMBERS
few_members f index h = few_apart MEMBERS (length index) (λ i. (slice_index_or index i none).rank % INDEXES)
    (λ i lt. let q = h.shown i none lt in
    let small : q.number < MEMBERS = q.small in
    let r = q.rank in
    omega arith)
    (λ i j lt inside e.
    let p = h.shown i none (omega arith) in
    let q = h.shown j none inside in
    let ps : p.number < MEMBERS = p.small in
    let qs : q.number < MEMBERS = q.small in
    let pr = p.rank in
    let qr = q.rank in
    let same : p.number ≡ q.number = omega arith in
    let k = same_key f _ _ p q same in
    let up = h.order.rises i j none lt inside in
    omega arith)

-- only what stands matters
pub index_same : (f g : ℕ → Option Mark) (index : List RankedMember) → ((x : ℕ) → x < MEMBERS → f x ≡ g x)
    → IsIndex f index → IsIndex g index
index_same f g index same h = record {
  order = h.order;
  shown = λ i d lt. let q = h.shown i d lt in record {
    number = q.number;
    small = q.small;
    stand = q.stand;
    stands = sym (same q.number q.small) ∙ q.stands;
    head = q.head;
    rank = q.rank;
  };
  holds = λ x k lt s. h.holds x k lt (same x lt ∙ s);
}

put_here : (f : ℕ → Option Mark) (n x : ℕ) (o : Option Mark) → x ≡ n → put f n o x ≡ o
put_here f n x o e = let t : (x == n) ≡ true = grind (arith, nat_tests) in rw t refl

-- another member's element
other_standing : (f : ℕ → Option Mark) (n : ℕ) (o : Option Mark) (a : RankedMember) (q : IsListedMember f a)
    → q.number ≢ n → IsListedMember (put f n o) a
other_standing f n o a q ne = record {
  number = q.number;
  small = q.small;
  stand = q.stand;
  stands = put_other f n o q.number ne ∙ q.stands;
  head = q.head;
  rank = q.rank;
}

module _ (f : ℕ → Option Mark) (index : List RankedMember) (h : IsIndex f index) (n : ℕ) (small : n < MEMBERS)
    (k : Mark) (fits : k.place < PLACES) (at : ℕ) (within : at ≤ length index)
    (before : (i : ℕ) (d : RankedMember) → i < at
    → key (slice_index_or index i d) < key_at k.head (INDEXES * k.place + n))
    (behind : (i : ℕ) (d : RankedMember) → at ≤ i → i < length index
    → key_at k.head (INDEXES * k.place + n) ≤ key (slice_index_or index i d)) where
  abbrev own : RankedMember
  own = standing_of n k

  -- a member that stands is where the search ends
  module _ (s : f n ≡ Some k) where
    found : Contains index own
    found = h.holds n k small s

    found_key : key (slice_index_or index found.0 own) ≡ key_at k.head (INDEXES * k.place + n)
    found_key = ap key found.2

    not_before : found.0 < at → ⊥
    not_before lt = let l = before found.0 own lt in let e = found_key in omega arith

    pub stands_inside : at < length index
    stands_inside = let i : found.0 < length index = found.1 in elim (sides found.0 at) [
      | inl l ↦ absurd (not_before l)
      | inr l ↦ elim l [ inl e ↦ omega arith | inr g ↦ omega arith ]
    ]

    is_found : found.0 ≡ at
    is_found = let i : found.0 < length index = found.1 in elim (sides found.0 at) [
      | inl l ↦ absurd (not_before l)
      | inr l ↦ elim l [
        | inl e ↦ e
        | inr g ↦
            let up = h.order.rises at found.0 own g i in
            let b = behind at own (omega arith) stands_inside in
            let e = found_key in
            absurd (omega arith)
      ]
    ]

    at_key : (d : RankedMember) → key (slice_index_or index at d) ≡ key_at k.head (INDEXES * k.place + n)
    at_key d = ap key (get_or_default index at d own stands_inside)
        ∙ ap (λ (j : ℕ). key (slice_index_or index j own)) (sym is_found) ∙ found_key

    -- no other element is of that member
    other : (i : ℕ) (d : RankedMember) → i < length index → i ≢ at → (q : IsListedMember f (slice_index_or index i d))
        → q.number ≢ n
    other i d lt ne q e =
        let p = h.shown at d stands_inside in
        let pk = at_key d in
        let pr = p.rank in
        let ps = p.small in
        let rk = h.order.ranks at d stands_inside in
        let pn : p.number ≡ n = omega arith in
        let same = same_key f _ _ q p (e ∙ sym pn) in
        elim (sides i at) [
          | inl l ↦ let up = h.order.rises i at d l stands_inside in omega arith
          | inr r ↦ elim r [
            | inl z ↦ ne z
            | inr g ↦ let up = h.order.rises at i d g lt in omega arith
          ]
        ]

    rest : List RankedMember
    rest = remove index at

    abbrev from : ℕ → ℕ
    from i = if nat_lt i at then i else i + 1

    rest_at : (i : ℕ) → ((i < at) × (from i ≡ i)) ⊎ ((at ≤ i) × (from i ≡ i + 1))
    rest_at i = by (nat_lt i at) refl
      where
        by : (b : Bool) → nat_lt i at ≡ b → ((i < at) × ((if b then i else i + 1) ≡ i)) ⊎ ((at ≤ i)
            × ((if b then i else i + 1) ≡ i + 1))
        by true e = inl (grind (arith, nat_tests), refl)
        by false e = inr (grind (arith, nat_tests), refl)

    rest_is : (i : ℕ) (d : RankedMember) → slice_index_or (remove index at) i d ≡ slice_index_or index (from i) d
    rest_is i d = elim (rest_at i) [
      | inl e ↦ get_or-remove_below index at d i e.0 stands_inside
          ∙ ap (λ (j : ℕ). slice_index_or index j d) (sym e.1)
      | inr e ↦ get_or-remove_above index at d i e.0 stands_inside
          ∙ ap (λ (j : ℕ). slice_index_or index j d) (sym e.1)
    ]

    shorter : length (remove index at) + 1 ≡ length index
    shorter = length-remove index at stands_inside

    from_inside : (i : ℕ) → i < length (remove index at) → from i < length index
    from_inside i lt = let z = shorter in elim (rest_at i) [ inl e ↦ omega arith | inr e ↦ omega arith ]

    from_other : (i : ℕ) → from i ≢ at
    from_other i z = elim (rest_at i) [ inl e ↦ omega arith | inr e ↦ omega arith ]

    from_rises : (i j : ℕ) → i < j → from i < from j
    from_rises i j lt = elim (rest_at i) [
      | inl e ↦ elim (rest_at j) [ inl g ↦ omega arith | inr g ↦ omega arith ]
      | inr e ↦ elim (rest_at j) [ inl g ↦ omega arith | inr g ↦ omega arith ]
    ]

    still : (i : ℕ) (a : RankedMember) → i < length index → i ≢ at → slice_index_or index i a ≡ a
        → Contains (remove index at) a
    still i a lt ne is = let z = shorter in let w = stands_inside in elim (sides i at) [
      | inl l ↦ (i, omega arith, get_or-remove_below index at a i l stands_inside ∙ is)
      | inr r ↦ elim r [
        | inl e ↦ absurd (ne e)
        | inr g ↦ (
          i - 1,
          omega arith,
          get_or-remove_above index at a (i - 1) (omega arith) stands_inside
              ∙ ap (λ (j : ℕ). slice_index_or index j a) (let e : i - 1 + 1 ≡ i = omega arith in e) ∙ is,
        )
      ]
    ]

    pub taken_out : IsIndex (put f n None) (remove index at)
    taken_out = record {
      order = record {
        ranks = λ i d lt. rw (rest_is i d) (h.order.ranks (from i) d (from_inside i lt));
        rises = λ i j d lt inside. rw (rest_is i d, rest_is j d)
            (h.order.rises (from i) (from j) d (from_rises i j lt) (from_inside j inside));
      };
      shown = λ i d lt.
          let q = h.shown (from i) d (from_inside i lt) in
          subst (IsListedMember (put f n None)) (sym (rest_is i d))
          (other_standing f n None _ q (other (from i) d (from_inside i lt) (from_other i) q));
      holds = λ x m lt stands.
          let apart : x ≢ n = λ e.
          (let z : None ≡ Some m = sym (put_here f n x None e) ∙ stands in absurd (cc)) in
          let was : f x ≡ Some m = sym (put_other f n None x apart) ∙ stands in
          let i = h.holds x m lt was in
          still i.0 (standing_of x m) i.1 (λ e.
          let pk = at_key (standing_of x m) in
          let z : key (slice_index_or index at (standing_of x m)) ≡ key (standing_of x m) =
          ap (λ (j : ℕ). key (slice_index_or index j (standing_of x m))) (sym e) ∙ ap key i.2 in
          let rk = h.order.ranks i.0 (standing_of x m) i.1 in
          let rk' : (standing_of x m).rank < RANKS = subst (λ (a : RankedMember). a.rank < RANKS) i.2 rk in
          apart (omega arith)) i.2;
    }

  -- a member that did not stand goes in there
  module _ (s : f n ≡ None) where
    longer : length (insert index at own) ≡ length index + 1
    longer = length-insert index at own within

    strictly : (i : ℕ) (d : RankedMember) → at ≤ i → i < length index
        → key_at k.head (INDEXES * k.place + n) < key (slice_index_or index i d)
    strictly i d le lt =
        let b = behind i d le lt in
        let q = h.shown i d lt in
        let qr = q.rank in
        let qs = q.small in
        let rk = h.order.ranks i d lt in
        let ne : q.number ≢ n = λ e.
        (let z : None ≡ Some q.stand = sym s ∙ ap f (sym e) ∙ q.stands in absurd (cc)) in
        omega arith

    new_at : (i : ℕ) (d : RankedMember)
        → ((i < at) × (slice_index_or (insert index at own) i d ≡ slice_index_or index i d))
        ⊎ (((i ≡ at) × (slice_index_or (insert index at own) i d ≡ own))
        ⊎ ((at < i) × (slice_index_or (insert index at own) i d ≡ slice_index_or index (i - 1) d)))
    new_at i d = elim (sides i at) [
      | inl l ↦ inl (l, get_or-insert_below index at own d i l within)
      | inr r ↦ elim r [
        | inl e ↦ inr (inl (
          e,
          ap (λ (j : ℕ). slice_index_or (insert index at own) j d) e ∙ get_or-insert_at index at own d within,
        ))
        | inr g ↦ inr (inr (
          g,
          ap (λ (j : ℕ). slice_index_or (insert index at own) j d) (let e : i ≡ i - 1 + 1 = omega arith in e)
              ∙ get_or-insert_above index at own d (i - 1) (omega arith) within,
        ))
      ]
    ]

    new_key : (i : ℕ) (d : RankedMember) → i < length (insert index at own)
        → ((i < at) × (key (slice_index_or (insert index at own) i d) ≡ key (slice_index_or index i d)))
        ⊎ (((i ≡ at) × (key (slice_index_or (insert index at own) i d) ≡ key_at k.head (INDEXES * k.place + n)))
        ⊎ ((at < i) × (key (slice_index_or (insert index at own) i d) ≡ key (slice_index_or index (i - 1) d))))
    new_key i d lt = elim (new_at i d) [
      | inl e ↦ inl (e.0, ap key e.1)
      | inr r ↦ elim r [ inl e ↦ inr (inl (e.0, ap key e.1)) | inr e ↦ inr (inr (e.0, ap key e.1)) ]
    ]

    new_rises : (i j : ℕ) (d : RankedMember) → i < j → j < length (insert index at own)
        → key (slice_index_or (insert index at own) i d) < key (slice_index_or (insert index at own) j d)
    new_rises i j d lt inside = let z = longer in elim (new_key i d (omega arith)) [
      | inl e ↦ elim (new_key j d inside) [
        | inl g ↦ let up = h.order.rises i j d lt (omega arith) in omega arith
        | inr r ↦ elim r [
          | inl g ↦ let b = before i d e.0 in omega arith
          | inr g ↦
              let b = before i d e.0 in
              let c = strictly (j - 1) d (omega arith) (omega arith) in
              omega arith
        ]
      ]
      | inr r ↦ elim r [
        | inl e ↦ elim (new_key j d inside) [
          | inl g ↦ absurd (omega arith)
          | inr v ↦ elim v [
            | inl g ↦ absurd (omega arith)
            | inr g ↦ let c = strictly (j - 1) d (omega arith) (omega arith) in omega arith
          ]
        ]
        | inr e ↦ elim (new_key j d inside) [
          | inl g ↦ absurd (omega arith)
          | inr v ↦ elim v [
            | inl g ↦ absurd (omega arith)
            | inr g ↦ let up = h.order.rises (i - 1) (j - 1) d (omega arith) (omega arith) in omega arith
          ]
        ]
      ]
    ]

    own_stands : IsListedMember (put f n (Some k)) own
    own_stands = record {
      number = n;
      small = small;
      stand = k;
      stands = put_here f n n (Some k) refl;
      head = refl;
      rank = refl;
    }

    still_stands : (i : ℕ) (d : RankedMember) → i < length index
        → IsListedMember (put f n (Some k)) (slice_index_or index i d)
    still_stands i d lt =
        let q = h.shown i d lt in
        other_standing f n (Some k) _ q (λ e.
        (let z : None ≡ Some q.stand = sym s ∙ ap f (sym e) ∙ q.stands in absurd (cc)))

    pub put_in : IsIndex (put f n (Some k)) (insert index at own)
    put_in = record {
      order = record {
        ranks = λ i d lt. let z = longer in elim (new_at i d) [
          | inl e ↦ rw e.1 (h.order.ranks i d (omega arith))
          | inr r ↦ elim r [
            | inl e ↦ rw e.1 (let u : INDEXES * k.place + n < RANKS = omega arith in u)
            | inr e ↦ rw e.1 (h.order.ranks (i - 1) d (omega arith))
          ]
        ];
        rises = new_rises;
      };
      shown = λ i d lt. let z = longer in elim (new_at i d) [
        | inl e ↦ subst (IsListedMember (put f n (Some k))) (sym e.1) (still_stands i d (omega arith))
        | inr r ↦ elim r [
          | inl e ↦ subst (IsListedMember (put f n (Some k))) (sym e.1) own_stands
          | inr e ↦ subst (IsListedMember (put f n (Some k))) (sym e.1) (still_stands (i - 1) d (omega arith))
        ]
      ];
      holds = λ x m lt stands. let z = longer in elim (eqb_tells x n) [
        | inl e ↦
            let q : Some m ≡ Some k = sym stands ∙ put_here f n x (Some k) e.1 in
            let mk : m ≡ k = cc in
            let same : own ≡ standing_of x m = ap (λ (j : ℕ). standing_of j k) (sym e.1)
            ∙ ap (standing_of x) (sym mk) in
            (at, omega arith, get_or-insert_at index at own (standing_of x m) within ∙ same)
        | inr e ↦
            let ne : x ≢ n = e.1 in
            let was : f x ≡ Some m = sym (put_other f n (Some k) x ne) ∙ stands in
            let i = h.holds x m lt was in
            elim (sides i.0 at) [
              | inl l ↦ (
                i.0,
                (let ii : i.0 < length index = i.1 in omega arith),
                get_or-insert_below index at own (standing_of x m) i.0 l within ∙ i.2,
              )
              | inr r ↦ (
                i.0 + 1,
                (let ii : i.0 < length index = i.1 in omega arith),
                get_or-insert_above index at own (standing_of x m) i.0
                    (elim r [ inl g ↦ omega arith | inr g ↦ omega arith ]) within ∙ i.2,
              )
            ]
      ];
    }

    pub room : length index < MEMBERS
    room = let few = few_members (put f n (Some k)) (insert index at own) put_in in let z = longer in omega arith

-- nothing stands at the start
pub start_index : (words : List ℕ) (index : List RankedMember) → Shows words start → index ≡ []
    → IsIndex (shown_stand words) index
start_index words index shown empty = record {
  order = record {
    ranks = λ i d lt. absurd (let z = ap length empty in omega arith);
    rises = λ i j d lt inside. absurd (let z = ap length empty in omega arith);
  };
  shown = λ i d lt. absurd (let z = ap length empty in omega arith);
  holds = λ x k lt s. absurd (let z : None ≡ Some k = sym (nothing x lt) ∙ s in cc);
}
  where
    nothing : (x : ℕ) → x < MEMBERS → shown_stand words x ≡ None
    nothing x lt = by (nat_lt x ENTRIES) refl
      where
        by : (b : Bool) → nat_lt x ENTRIES ≡ b
            → (if b then stand_by (entry_in_words words x) else shown_mark words (x - ENTRIES)) ≡ None
        by true e = ap (λ (w : ℕ). stand_by (entry_of w)) (shown.each (Entry x) (grind (arith, nat_tests)))
            ∙ ap stand_by none_read
        by false e = ap mark_of (shown.each (Bookmark (x - ENTRIES))
            (let u : ENTRIES ≤ x = grind (arith, nat_tests) in omega arith)) ∙ no_mark_read

-- a word that changes takes out what stood there, and puts in what stands there now
set_other : (words : List ℕ) (at x left : ℕ) → x ≢ at → slice_index (slice_set words at left) x ≡ slice_index words x
set_other words at x left ne = get_or-set_other words at x left 0 ne

set_here : (words : List ℕ) (at x left : ℕ) → x ≡ at → at < length words
    → slice_index (slice_set words at left) x ≡ left
set_here words at x left e inside = get_or-set_at words at x left 0 e inside

-- what the words show, by whose word changed
shown_other : (words : List ℕ) (at left x : ℕ) → (x < ENTRIES → ENTRY_AT + x ≢ at) → (ENTRIES ≤ x
    → BOOKMARK_AT + (x - ENTRIES) ≢ at)
    → shown_stand words x ≡ shown_stand (slice_set words at left) x
shown_other words at left x entry mark = by (nat_lt x ENTRIES) refl
  where
    by : (b : Bool) → nat_lt x ENTRIES ≡ b
        → (if b then stand_by (entry_in_words words x) else shown_mark words (x - ENTRIES))
        ≡ (if b then stand_by (entry_in_words (slice_set words at left) x)
        else shown_mark (slice_set words at left) (x - ENTRIES))
    by true e = ap (λ (w : ℕ). stand_by (entry_of w))
        (sym (set_other words at (ENTRY_AT + x) left (entry (grind (arith, nat_tests)))))
    by false e = ap mark_of (sym (set_other words at (BOOKMARK_AT + (x - ENTRIES)) left (mark (grind (
      arith,
      nat_tests,
    )))))

pub cond_class : (c : ℕ) → class_of (cond_at c) ≡ class.Other
cond_class c = by (nat_lt c PLAIN_CONDITIONS) (nat_lt c FIRST_BIT_WORD) (nat_lt c FIRST_VARIABLE)
  where
    by : (p d b : Bool) → class_of (if p then Plain c else if d then Done (c - FIRST_DONE)
        else if b then Bits (c - FIRST_BIT_WORD) else Var (c - FIRST_VARIABLE)) ≡ class.Other
    by true d b = refl
    by false true b = refl
    by false false true = refl
    by false false false = refl

pub entry_class : (l : Location) (x : ℕ) → class_of l ≡ class.Entry x → l ≡ Entry x
entry_class (Entry y) x is = let e : y ≡ x = cc in ap Entry e
entry_class (Bookmark y) x is = absurd (cc)
entry_class l x is = absurd (cc)

pub mark_class : (l : Location) (t : ℕ) → class_of l ≡ class.Bookmark t → l ≡ Bookmark t
mark_class (Entry y) t is = absurd (cc)
mark_class (Bookmark y) t is = let e : y ≡ t = cc in ap Bookmark e
mark_class l t is = absurd (cc)

module _ (words : List ℕ) (count : length words ≡ WORDS) (at left : ℕ) (after : List RankedMember) (n : ℕ) where
  pub entry_changed : n + ENTRY_AT ≡ at → n < ENTRIES
      → IsIndex (put (put (shown_stand words) n None) n (stand_by (entry_of left))) after
      → IsIndex (shown_stand (slice_set words at left)) after
  entry_changed is small h = index_same (put (put (shown_stand words) n None) n (stand_by (entry_of left)))
      (shown_stand (slice_set words at left)) after same h
    where
      same : (x : ℕ) → x < MEMBERS → put (put (shown_stand words) n None) n (stand_by (entry_of left)) x
          ≡ shown_stand (slice_set words at left) x
      same x lt = elim (eqb_tells x n) [
        | inl e ↦ put_here (put (shown_stand words) n None) n x (stand_by (entry_of left)) e.1
            ∙ rw (let t : nat_lt x ENTRIES ≡ true = (let z : x ≡ n = e.1 in grind (arith, nat_tests)) in t)
            (ap (λ (w : ℕ). stand_by (entry_of w))
            (sym (set_here words at (ENTRY_AT + x) left (let z : x ≡ n = e.1 in omega arith) (omega arith))))
        | inr e ↦
            let ne : x ≢ n = e.1 in
            put_other (put (shown_stand words) n None) n (stand_by (entry_of left)) x ne
            ∙ put_other (shown_stand words) n None x ne
            ∙ shown_other words at left x (λ l z. ne (omega arith)) (λ l z. omega arith)
      ]

  pub mark_changed : n + BOOKMARK_AT ≡ at + ENTRIES → ENTRIES ≤ n → n < MEMBERS
      → IsIndex (put (put (shown_stand words) n None) n (mark_of left)) after
      → IsIndex (shown_stand (slice_set words at left)) after
  mark_changed is big small h = index_same (put (put (shown_stand words) n None) n (mark_of left))
      (shown_stand (slice_set words at left)) after same h
    where
      same : (x : ℕ) → x < MEMBERS → put (put (shown_stand words) n None) n (mark_of left) x
          ≡ shown_stand (slice_set words at left) x
      same x lt = elim (eqb_tells x n) [
        | inl e ↦ put_here (put (shown_stand words) n None) n x (mark_of left) e.1
            ∙ rw (let t : nat_lt x ENTRIES ≡ false = (let z : x ≡ n = e.1 in grind (arith, nat_tests)) in t)
            (ap mark_of
            (sym (set_here words at (BOOKMARK_AT + (x - ENTRIES)) left (let z : x ≡ n = e.1 in omega arith) (omega
            arith))))
        | inr e ↦
            let ne : x ≢ n = e.1 in
            put_other (put (shown_stand words) n None) n (mark_of left) x ne
            ∙ put_other (shown_stand words) n None x ne
            ∙ shown_other words at left x (λ l z. omega arith) (λ l z. ne (omega arith))
      ]

-- what stood there
pub entry_stood : (words : List ℕ) (n : ℕ) → n < ENTRIES → shown_stand words n ≡ stand_by (entry_in_words words n)
entry_stood words n small = rw (let t : nat_lt n ENTRIES ≡ true = grind (arith, nat_tests) in t) refl

pub mark_stood : (words : List ℕ) (n t : ℕ) → n ≡ ENTRIES + t → shown_stand words n ≡ shown_mark words t
mark_stood words n t is =
    let b : nat_lt n ENTRIES ≡ false = grind (arith, nat_tests) in
    let e : n - ENTRIES ≡ t = omega arith in
    rw (b, e) refl

pub emptied : (f : ℕ → Option Mark) (n : ℕ) → put f n None n ≡ None
emptied f n = put_here f n n None refl
