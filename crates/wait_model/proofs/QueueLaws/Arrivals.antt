-- Where a walk goes on: behind the entries of other watches, before a member at which it breaks, or at an entry of
-- its watch.
use Rattle.std.proofs.lemmas.Bool.{both_ways}
use Rattle.std.proofs.lemmas.Bool.Decides.{nat_tests}
use Rattle.std.proofs.Common.{refl, sym, ◌∙◌, ap, subst, arith, inl, inr}
use Rattle.std.specs.Prelude.{ℕ, ◌≡◌, ◌+◌, ◌<◌, ◌≤◌, ◌&&◌, Bool, true, false, cond, nat_le, nat_lt, if◌then◌else◌, List}
use Rattle.std.specs.Prelude.{[], ◌∷◌, Some, None}
use Rattle.wait_model.specs.{declared.layout.TheConstants.BREAK, declared.queues.Member.Member}
use Rattle.wait_model.specs.Queues.{rank, member_from, members_from, is_entry, Arrival, arrive, IsIn, IsRisingFrom}
use Rattle.wait_model.specs.Queues.{IsInOrder}
use Rattle.wait_model.proofs.QueueLaws.QueueOrder.{before_in, before_all}

-- the members from a rank on are those of the queue that have it at least
module _ (least : ℕ) where
  from_here : (x m : Member) (ms : List Member) (b : Bool) → nat_le least (rank m) ≡ b
      → (IsIn x (members_from least ms) → IsIn x ms × (least ≤ rank x))
      → IsIn x (cond b (m ∷ members_from least ms) (members_from least ms)) → IsIn x (m ∷ ms) × (least ≤ rank x)
  from_here x m ms true t h (inl s) =
      let l : least ≤ rank m = grind (arith, nat_tests) in
      (inl s, subst (λ (y : Member). least ≤ rank y) (sym s) l)
  from_here x m ms true t h (inr i) = (inr (h i).0, (h i).1)
  from_here x m ms false t h i = (inr (h i).0, (h i).1)

  pub from_in : (x : Member) (q : List Member) → IsIn x (members_from least q) → IsIn x q × (least ≤ rank x)
  from_in x [] i = absurd i
  from_in x (m ∷ ms) i = from_here x m ms (nat_le least (rank m)) refl (from_in x ms) i

  stays_here : (x m : Member) (ms : List Member) (b : Bool) → nat_le least (rank m) ≡ b → least ≤ rank x
      → (IsIn x ms → IsIn x (members_from least ms)) → IsIn x (m ∷ ms)
      → IsIn x (cond b (m ∷ members_from least ms) (members_from least ms))
  stays_here x m ms true t l h (inl s) = inl s
  stays_here x m ms true t l h (inr i) = inr (h i)
  stays_here x m ms false t l h (inl s) =
      let u : rank m < least = grind (arith, nat_tests) in
      let g : rank x ≡ rank m = ap rank s in
      absurd (omega arith)
  stays_here x m ms false t l h (inr i) = h i

  pub in_from : (x : Member) (q : List Member) → least ≤ rank x → IsIn x q → IsIn x (members_from least q)
  in_from x [] l i = absurd i
  in_from x (m ∷ ms) l i = stays_here x m ms (nat_le least (rank m)) refl l (in_from x ms l) i

  -- no member has the rank
  none_here : (m : Member) (ms : List Member) (b : Bool) → (member_from least ms ≡ None → members_from least ms ≡ [])
      → (if b then Some m else member_from least ms) ≡ None
      → cond b (m ∷ members_from least ms) (members_from least ms) ≡ []
  none_here m ms true h e = absurd (cc)
  none_here m ms false h e = h e

-- a queue in which each member has the rank
all_from : (least : ℕ) (q : List Member) → ((x : Member) → IsIn x q → least ≤ rank x) → members_from least q ≡ q
all_from least [] h = refl
all_from least (m ∷ ms) h =
    let l : least ≤ rank m = h m (inl refl) in
    let t : nat_le least (rank m) ≡ true = grind (arith, nat_tests) in
    ap (λ b. cond b (m ∷ members_from least ms) (members_from least ms)) t
    ∙ ap (λ (r : List Member). m ∷ r) (all_from least ms (λ x i. h x (inr i)))

module _ (least : ℕ) where
  -- the first member that has the rank, and those behind it
  here_less : (m : Member) (ms : List Member) → IsInOrder (m ∷ ms)
      → members_from (rank m + 1) (m ∷ ms) ≡ ms
  here_less m ms o =
      let f : nat_le (rank m + 1) (rank m) ≡ false = grind (arith, nat_tests) in
      ap (λ b. cond b (m ∷ members_from (rank m + 1) ms) (members_from (rank m + 1) ms)) f
      ∙ all_from (rank m + 1) ms (λ x i. let l : rank m < rank x = before_in (rank m) ms x o.0 i in omega arith)

  some_here : (x m : Member) (ms : List Member) (b : Bool) → nat_le least (rank m) ≡ b → IsInOrder (m ∷ ms)
      → (member_from least ms ≡ Some x → members_from least ms ≡ x ∷ members_from (rank x + 1) ms)
      → (if b then Some m else member_from least ms) ≡ Some x
      → cond b (m ∷ members_from least ms) (members_from least ms) ≡ x ∷ members_from (rank x + 1) (m ∷ ms)
  some_here x m ms true t o h e =
      let s : m ≡ x = cc in
      let l : least ≤ rank m = grind (arith, nat_tests) in
      ap (λ (r : List Member). m ∷ r) (all_from least ms
      (λ y i. let u : rank m < rank y = before_in (rank m) ms y o.0 i in omega arith))
      ∙ ap (λ (r : List Member). m ∷ r) (sym (here_less m ms o))
      ∙ ap (λ (y : Member). y ∷ members_from (rank y + 1) (m ∷ ms)) s
  some_here x m ms false t o h e =
      let u : rank m < least = grind (arith, nat_tests) in
      let l : least ≤ rank x = (from_in least x ms (rw (h e) (inl refl))).1 in
      let f : nat_le (rank x + 1) (rank m) ≡ false = grind (arith, nat_tests) in
      h e ∙ ap (λ (r : List Member). x ∷ r)
      (sym (ap (λ b. cond b (m ∷ members_from (rank x + 1) ms) (members_from (rank x + 1) ms)) f))

-- the members from a rank on are in order
ordered_here : (least : ℕ) (m : Member) (ms : List Member) (b : Bool) → IsRisingFrom (rank m) ms
    → IsInOrder (members_from least ms) → IsInOrder (cond b (m ∷ members_from least ms) (members_from least ms))
ordered_here least m ms true f h =
    (before_all (rank m) (members_from least ms) (λ x i. before_in (rank m) ms x f (from_in least x ms i).0), h)
ordered_here least m ms false f h = h

pub ordered_from : (least : ℕ) (q : List Member) → IsInOrder q → IsInOrder (members_from least q)
ordered_from least [] o = tt
ordered_from least (m ∷ ms) o = ordered_here least m ms (nat_le least (rank m)) o.0 (ordered_from least ms o.1)

-- where a walk with this key goes on among members in order
module _ (key : Member → Bool) where
  abbrev pub is_called : Member → Bool
  is_called m = is_entry m && key m

  -- it is a member of the queue
  in_here : (calls : ℕ) (m x : Member) (ms : List Member) (a b : Bool)
      → ((arrive key (if is_entry m then calls + 1 else calls) ms).member ≡ Some x → IsIn x ms)
      → (if a then record { calls = calls; member = Some m; breaks = true }
      else if b then record { calls = calls; member = Some m; breaks = false }
      else arrive key (if is_entry m then calls + 1 else calls) ms).member ≡ Some x → IsIn x (m ∷ ms)
  in_here calls m x ms true b h e = let s : m ≡ x = cc in inl (sym s)
  in_here calls m x ms false true h e = let s : m ≡ x = cc in inl (sym s)
  in_here calls m x ms false false h e = inr (h e)

  pub arrives_in : (calls : ℕ) (q : List Member) (x : Member) → (arrive key calls q).member ≡ Some x → IsIn x q
  arrives_in calls [] x e = absurd (cc)
  arrives_in calls (m ∷ ms) x e = in_here calls m x ms (nat_lt BREAK calls) (is_called m)
      (arrives_in (if is_entry m then calls + 1 else calls) ms x) e

  -- where it doesn't break it is an entry with the key, after at most as many calls as a hold makes, and no such
  -- entry stands before it
  pub record IsReached (q : List Member) (r : Arrival) : Type 0 where
    pub called : (m : Member) → r.member ≡ Some m → r.breaks ≡ false → (is_called m ≡ true) × (r.calls ≤ BREAK)
    pub calls : r.calls ≤ BREAK + 1
    pub ahead : (x : Member) → IsIn x q → is_called x ≡ true → (m : Member) × (r.member ≡ Some m) × (rank m ≤ rank x)

  one_more : (calls : ℕ) (m : Member) → nat_lt BREAK calls ≡ false
      → (if is_entry m then calls + 1 else calls) ≤ BREAK + 1
  one_more calls m t = by (is_entry m)
    where
      by : (b : Bool) → (if b then calls + 1 else calls) ≤ BREAK + 1
      by true = let l : calls ≤ BREAK = grind (arith, nat_tests) in omega arith
      by false = let l : calls ≤ BREAK = grind (arith, nat_tests) in omega arith

  first_ahead : (m : Member) (ms : List Member) (x : Member) → IsInOrder (m ∷ ms) → IsIn x (m ∷ ms)
      → rank m ≤ rank x
  first_ahead m ms x o (inl s) = let g : rank x ≡ rank m = ap rank s in omega arith
  first_ahead m ms x o (inr i) = let f : rank m < rank x = before_in (rank m) ms x o.0 i in omega arith

  reached_here : (calls : ℕ) (m : Member) (ms : List Member) (a b : Bool) → nat_lt BREAK calls ≡ a
      → is_called m ≡ b → calls ≤ BREAK + 1 → IsInOrder (m ∷ ms)
      → ((if is_entry m then calls + 1 else calls) ≤ BREAK + 1
      → IsReached ms (arrive key (if is_entry m then calls + 1 else calls) ms))
      → IsReached (m ∷ ms) (if a then record { calls = calls; member = Some m; breaks = true }
      else if b then record { calls = calls; member = Some m; breaks = false }
      else arrive key (if is_entry m then calls + 1 else calls) ms)
  reached_here calls m ms true b t u l o h = record {
    called = λ x e f. absurd (cc);
    calls = l;
    ahead = λ x i k. (m, refl, first_ahead m ms x o i);
  }
  reached_here calls m ms false true t u l o h = record {
    called = λ x e f. let s : m ≡ x = cc in
        (subst (λ (y : Member). is_called y ≡ true) s u, grind (arith, nat_tests));
    calls = l;
    ahead = λ x i k. (m, refl, first_ahead m ms x o i);
  }
  reached_here calls m ms false false t u l o h =
      let r = h (one_more calls m t) in
      record { called = r.called; calls = r.calls; ahead = behind r }
    where
      behind : IsReached ms (arrive key (if is_entry m then calls + 1 else calls) ms) → (x : Member)
          → IsIn x (m ∷ ms) → is_called x ≡ true
          → (y : Member) × ((arrive key (if is_entry m then calls + 1 else calls) ms).member ≡ Some y)
          × (rank y ≤ rank x)
      behind r x (inl s) k = absurd (both_ways true (sym k ∙ ap is_called s ∙ u) refl)
      behind r x (inr i) k = r.ahead x i k

  pub arrives : (calls : ℕ) (q : List Member) → calls ≤ BREAK + 1 → IsInOrder q
      → IsReached q (arrive key calls q)
  arrives calls [] l o = record { called = λ m e f. absurd (cc); calls = l; ahead = λ x i k. absurd i }
  arrives calls (m ∷ ms) l o = reached_here calls m ms (nat_lt BREAK calls) (is_called m) refl refl l o
      (λ k. arrives (if is_entry m then calls + 1 else calls) ms k o.1)
