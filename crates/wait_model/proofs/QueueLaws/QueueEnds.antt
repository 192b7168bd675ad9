-- The last member within places, and an add at the tail.
use Rattle.std.proofs.lemmas.Bool.{both_ways}
use Rattle.std.proofs.lemmas.Bool.Decides.{nat_tests}
use Rattle.std.proofs.Common.{refl, sym, ◌∙◌, ap, arith, inl, inr}
use Rattle.std.specs.Prelude.{ℕ, ◌≡◌, ◌<◌, ◌≤◌, ◌⊎◌, Option, Some, None, Bool, true, false, ◌&&◌, nat_le, nat_lt}
use Rattle.std.specs.Prelude.{if◌then◌else◌, List, [], ◌∷◌, ◌++◌}
use Rattle.wait_model.specs.declared.queues.Member.{Member}
use Rattle.wait_model.specs.Queues.{rank, is_entry, entries_of, or_here, last_within, IsIn, IsRisingFrom, IsInOrder}
use Rattle.wait_model.proofs.QueueLaws.QueueOrder.{before_in, before_all, one_rank}

-- what the last member within places is
abbrev pub IsLastWithin : ℕ → ℕ → List Member → Option Member → Type 0
IsLastWithin low high q None = (e : Member) → IsIn e q → low ≤ e.place → e.place < high → ⊥
IsLastWithin low high q (Some m) = IsIn m q × (low ≤ m.place) × (m.place < high)
    × ((e : Member) → IsIn e q → low ≤ e.place → e.place < high → rank e ≤ rank m)

module _ (low high : ℕ) (m : Member) (ms : List Member) (o : IsInOrder (m ∷ ms)) where
  -- a member behind is the later one
  behind : (b : Member) → IsLastWithin low high ms (Some b) → IsLastWithin low high (m ∷ ms) (Some b)
  behind b h = (inr h.0, h.1, h.2, above)
    where
      above : (e : Member) → IsIn e (m ∷ ms) → low ≤ e.place → e.place < high → rank e ≤ rank b
      above e (inl s) l u =
          let g : rank e ≡ rank m = ap rank s in
          let f : rank m < rank b = before_in (rank m) ms b o.0 h.0 in
          omega arith
      above e (inr i) l u = h.3 e i l u

  -- nothing behind is within
  here : (c d : Bool) → nat_le low m.place ≡ c → nat_lt m.place high ≡ d → IsLastWithin low high ms None
      → IsLastWithin low high (m ∷ ms) (if c && d then Some m else None)
  here true true l u h = (inl refl, grind (arith, nat_tests), grind (arith, nat_tests), above)
    where
      above : (e : Member) → IsIn e (m ∷ ms) → low ≤ e.place → e.place < high → rank e ≤ rank m
      above e (inl s) a b = let g : rank e ≡ rank m = ap rank s in omega arith
      above e (inr i) a b = absurd (h e i a b)
  here true false l u h = none
    where
      none : (e : Member) → IsIn e (m ∷ ms) → low ≤ e.place → e.place < high → ⊥
      none e (inl s) a b = let g : e.place ≡ m.place = ap (λ (x : Member). x.place) s in
          let t : high ≤ m.place = grind (arith, nat_tests) in omega arith
      none e (inr i) a b = h e i a b
  here false d l u h = none
    where
      none : (e : Member) → IsIn e (m ∷ ms) → low ≤ e.place → e.place < high → ⊥
      none e (inl s) a b = let g : e.place ≡ m.place = ap (λ (x : Member). x.place) s in
          let t : m.place < low = grind (arith, nat_tests) in omega arith
      none e (inr i) a b = h e i a b

  last_here : (r : Option Member) → IsLastWithin low high ms r
      → IsLastWithin low high (m ∷ ms) (or_here r low high m)
  last_here None h = here (nat_le low m.place) (nat_lt m.place high) refl refl h
  last_here (Some b) h = behind b h

pub last_of : (low high : ℕ) (q : List Member) → IsInOrder q → IsLastWithin low high q (last_within low high q)
last_of low high [] o = λ e i l u. i
last_of low high (m ∷ ms) o = last_here low high m ms o (last_within low high ms) (last_of low high ms o.1)

-- two answers of one queue are the same
pub one_last : (low high : ℕ) (q : List Member) (a b : Option Member) → IsInOrder q → IsLastWithin low high q a
    → IsLastWithin low high q b → a ≡ b
one_last low high q None None o h k = refl
one_last low high q None (Some b) o h k = absurd (h b k.0 k.1 k.2)
one_last low high q (Some a) None o h k = absurd (k a h.0 h.1 h.2)
one_last low high q (Some a) (Some b) o h k =
    let f : rank b ≤ rank a = h.3 b k.0 k.1 k.2 in
    let g : rank a ≤ rank b = k.3 a h.0 h.1 h.2 in
    ap (λ (x : Member). Some x) (one_rank q a b o h.0 k.0 (omega arith))

-- the entries of a queue: its members that are entries, in its order
entry_here : (x m : Member) (ms : List Member) (b : Bool) → is_entry m ≡ b
    → (IsIn x (entries_of ms) → IsIn x ms × (is_entry x ≡ true))
    → IsIn x (if b then m ∷ entries_of ms else entries_of ms) → IsIn x (m ∷ ms) × (is_entry x ≡ true)
entry_here x m ms true is h (inl s) = (inl s, ap is_entry s ∙ is)
entry_here x m ms true is h (inr i) = let k = h i in (inr k.0, k.1)
entry_here x m ms false is h i = let k = h i in (inr k.0, k.1)

pub entry_in : (x : Member) (q : List Member) → IsIn x (entries_of q) → IsIn x q × (is_entry x ≡ true)
entry_in x [] i = absurd i
entry_in x (m ∷ ms) i = entry_here x m ms (is_entry m) refl (entry_in x ms) i

kept_here : (x m : Member) (ms : List Member) (b : Bool) → is_entry m ≡ b → is_entry x ≡ true
    → (IsIn x ms → IsIn x (entries_of ms)) → IsIn x (m ∷ ms) → IsIn x (if b then m ∷ entries_of ms else entries_of ms)
kept_here x m ms true is e h (inl s) = inl s
kept_here x m ms true is e h (inr i) = inr (h i)
kept_here x m ms false is e h (inl s) = absurd (both_ways true (sym e ∙ ap is_entry s ∙ is) refl)
kept_here x m ms false is e h (inr i) = h i

pub in_entries : (x : Member) (q : List Member) → is_entry x ≡ true → IsIn x q → IsIn x (entries_of q)
in_entries x [] e i = absurd i
in_entries x (m ∷ ms) e i = kept_here x m ms (is_entry m) refl e (in_entries x ms e) i

ordered_here : (m : Member) (ms : List Member) (b : Bool) → IsRisingFrom (rank m) ms → IsInOrder (entries_of ms)
    → IsInOrder (if b then m ∷ entries_of ms else entries_of ms)
ordered_here m ms true f o =
    (before_all (rank m) (entries_of ms) (λ x i. before_in (rank m) ms x f (entry_in x ms i).0), o)
ordered_here m ms false f o = o

pub order_entries : (q : List Member) → IsInOrder q → IsInOrder (entries_of q)
order_entries [] o = tt
order_entries (m ∷ ms) o = ordered_here m ms (is_entry m) o.0 (order_entries ms o.1)

-- an add at the tail: its members
pub tail_added : (e x : Member) (q : List Member) → IsIn x (q ++ e ∷ []) → (x ≡ e) ⊎ IsIn x q
tail_added e x [] (inl i) = inl i
tail_added e x [] (inr i) = absurd i
tail_added e x (m ∷ ms) (inl i) = inr (inl i)
tail_added e x (m ∷ ms) (inr i) = elim (tail_added e x ms i) [ inl s ↦ inl s | inr j ↦ inr (inr j) ]

pub tail_new : (e : Member) (q : List Member) → IsIn e (q ++ e ∷ [])
tail_new e [] = inl refl
tail_new e (m ∷ ms) = inr (tail_new e ms)

pub tail_old : (e x : Member) (q : List Member) → IsIn x q → IsIn x (q ++ e ∷ [])
tail_old e x [] i = absurd i
tail_old e x (m ∷ ms) (inl s) = inl s
tail_old e x (m ∷ ms) (inr i) = inr (tail_old e x ms i)

before_tail : (p : ℕ) (e : Member) (q : List Member) → IsRisingFrom p q → p < rank e → IsRisingFrom p (q ++ e ∷ [])
before_tail p e [] b h = (h, tt)
before_tail p e (m ∷ ms) b h = (b.0, before_tail p e ms b.1 h)

pub order_tail : (e : Member) (q : List Member) → IsInOrder q → ((x : Member) → IsIn x q → rank x < rank e)
    → IsInOrder (q ++ e ∷ [])
order_tail e [] o h = (tt, tt)
order_tail e (m ∷ ms) o h = (
  before_tail (rank m) e ms o.0 (h m (inl refl)),
  order_tail e ms o.1 (λ x i. h x (inr i)),
)
