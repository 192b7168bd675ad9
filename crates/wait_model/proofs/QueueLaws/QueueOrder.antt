-- Queues in order: the first member from a rank on, an add at the front, and a removal.
use Rattle.std.proofs.lemmas.Bool.{both_ways}
use Rattle.std.proofs.lemmas.Bool.Decides.{nat_tests}
use Rattle.std.proofs.Common.{refl, sym, ◌∙◌, ap, subst, arith, inl, inr}
use Rattle.std.specs.Prelude.{ℕ, ◌≡◌, ◌≢◌, ◌<◌, ◌≤◌, ◌⊎◌, ◌&&◌, Option, Some, None, Bool, true, false, cond, not, ◌==◌}
use Rattle.std.specs.Prelude.{nat_le, nat_lt, if◌then◌else◌, List, [], ◌∷◌}
use Rattle.wait_model.specs.declared.layout.TheConstants.{MIDDLE, INDEXES}
use Rattle.wait_model.specs.declared.queues.Member.{Member}
use Rattle.wait_model.specs.Queues.{rank, first_from, front_add, without, IsIn, IsRisingFrom, IsInOrder}

-- whoever stands behind a rank has a higher one
pub before_in : (p : ℕ) (q : List Member) (e : Member) → IsRisingFrom p q → IsIn e q → p < rank e
before_in p [] e b i = absurd i
before_in p (m ∷ ms) e b (inl s) = subst (λ (x : Member). p < rank x) (sym s) b.0
before_in p (m ∷ ms) e b (inr i) = before_in p ms e b.1 i

-- two members of one rank are one
pub one_rank : (q : List Member) (a b : Member) → IsInOrder q → IsIn a q → IsIn b q → rank a ≡ rank b
    → a ≡ b
one_rank [] a b o i j s = absurd i
one_rank (m ∷ ms) a b o (inl i) (inl j) s = i ∙ sym j
one_rank (m ∷ ms) a b o (inl i) (inr j) s =
    let f : rank m < rank b = before_in (rank m) ms b o.0 j in
    let g : rank a ≡ rank m = ap rank i in
    absurd (omega arith)
one_rank (m ∷ ms) a b o (inr i) (inl j) s =
    let f : rank m < rank a = before_in (rank m) ms a o.0 i in
    let g : rank b ≡ rank m = ap rank j in
    absurd (omega arith)
one_rank (m ∷ ms) a b o (inr i) (inr j) s = one_rank ms a b o.1 i j s

-- what the first member from a rank on is, of those that pass a test
abbrev pub IsFirstFrom : (Member → Bool) → ℕ → List Member → Option Member → Type 0
IsFirstFrom test p q None = (e : Member) → IsIn e q → test e ≡ true → rank e < p
IsFirstFrom test p q (Some m) = IsIn m q × (test m ≡ true) × (p ≤ rank m)
    × ((e : Member) → IsIn e q → test e ≡ true → p ≤ rank e → rank m ≤ rank e)

at_least : (m : Member) (ms : List Member) (e : Member) → IsRisingFrom (rank m) ms → IsIn e (m ∷ ms)
    → rank m ≤ rank e
at_least m ms e b (inl s) = let g : rank e ≡ rank m = ap rank s in omega arith
at_least m ms e b (inr i) = let f : rank m < rank e = before_in (rank m) ms e b i in omega arith

-- a member that fails the test, or under the rank, changes nothing
abbrev Fails : (Member → Bool) → ℕ → Member → Type 0
Fails test p m = test m ≡ true → rank m < p

fails_as : (test : Member → Bool) (p : ℕ) (m e : Member) → Fails test p m → e ≡ m → Fails test p e
fails_as test p m e u s = subst (Fails test p) (sym s) u

further : (test : Member → Bool) (p : ℕ) (m : Member) (ms : List Member) (r : Option Member) → Fails test p m
    → IsFirstFrom test p ms r → IsFirstFrom test p (m ∷ ms) r
further test p m ms None u h = none
  where
    none : (e : Member) → IsIn e (m ∷ ms) → test e ≡ true → rank e < p
    none e (inl s) t = fails_as test p m e u s t
    none e (inr i) t = h e i t
further test p m ms (Some r) u h = (inr h.0, h.1, h.2, least)
  where
    least : (e : Member) → IsIn e (m ∷ ms) → test e ≡ true → p ≤ rank e → rank r ≤ rank e
    least e (inl s) t k = let g : rank e < p = fails_as test p m e u s t in absurd (omega arith)
    least e (inr i) t k = h.3 e i t k

first_here : (test : Member → Bool) (p : ℕ) (m : Member) (ms : List Member) (a b : Bool) → test m ≡ a
    → nat_le p (rank m) ≡ b → IsInOrder (m ∷ ms) → IsFirstFrom test p ms (first_from test p ms)
    → IsFirstFrom test p (m ∷ ms) (if a && b then Some m else first_from test p ms)
first_here test p m ms true true d t o h =
    let at : p ≤ rank m = grind (arith, nat_tests) in
    (inl refl, d, at, λ e i s k. at_least m ms e o.0 i)
first_here test p m ms true false d t o h =
    let under : rank m < p = grind (arith, nat_tests) in
    further test p m ms (first_from test p ms) (λ _. under) h
first_here test p m ms false b d t o h =
    further test p m ms (first_from test p ms) (λ y. absurd (both_ways true (sym y ∙ d) refl)) h

pub first_is : (test : Member → Bool) (p : ℕ) (q : List Member) → IsInOrder q
    → IsFirstFrom test p q (first_from test p q)
first_is test p [] o = λ e i s. absurd i
first_is test p (m ∷ ms) o = first_here test p m ms (test m) (nat_le p (rank m)) refl refl o
    (first_is test p ms o.1)

-- two answers of one queue are the same
pub one_first : (test : Member → Bool) (p : ℕ) (q : List Member) (a b : Option Member) → IsInOrder q
    → IsFirstFrom test p q a → IsFirstFrom test p q b → a ≡ b
one_first test p q None None o h k = refl
one_first test p q None (Some b) o h k = let f : rank b < p = h b k.0 k.1 in let g : p ≤ rank b = k.2
    in absurd (omega arith)
one_first test p q (Some a) None o h k = let f : rank a < p = k a h.0 h.1 in let g : p ≤ rank a = h.2
    in absurd (omega arith)
one_first test p q (Some a) (Some b) o h k =
    let f : rank a ≤ rank b = h.3 b k.0 k.1 k.2 in
    let g : rank b ≤ rank a = k.3 a h.0 h.1 h.2 in
    ap (λ (x : Member). Some x) (one_rank q a b o h.0 k.0 (omega arith))

-- a member put behind m, into ms, or before m: the members
pub added_here : (e x m : Member) (put ms : List Member) (b : Bool) → (IsIn x put → (x ≡ e) ⊎ IsIn x ms)
    → IsIn x (if b then m ∷ put else e ∷ m ∷ ms) → (x ≡ e) ⊎ IsIn x (m ∷ ms)
added_here e x m put ms true h (inl i) = inr (inl i)
added_here e x m put ms true h (inr i) = elim (h i) [ inl s ↦ inl s | inr j ↦ inr (inr j) ]
added_here e x m put ms false h (inl i) = inl i
added_here e x m put ms false h (inr i) = inr i

pub new_here : (e m : Member) (put ms : List Member) (b : Bool) → IsIn e put
    → IsIn e (if b then m ∷ put else e ∷ m ∷ ms)
new_here e m put ms true h = inr h
new_here e m put ms false h = inl refl

pub old_here : (e x m : Member) (put ms : List Member) (b : Bool) → (IsIn x ms → IsIn x put)
    → IsIn x (m ∷ ms) → IsIn x (if b then m ∷ put else e ∷ m ∷ ms)
old_here e x m put ms true h (inl s) = inl s
old_here e x m put ms true h (inr i) = inr (h i)
old_here e x m put ms false h i = inr i

-- an add at the front: its members
pub added_in : (e x : Member) (q : List Member) → IsIn x (front_add e q) → (x ≡ e) ⊎ IsIn x q
added_in e x [] (inl i) = inl i
added_in e x [] (inr i) = absurd i
added_in e x (m ∷ ms) i = added_here e x m (front_add e ms) ms (nat_lt m.place MIDDLE) (added_in e x ms) i

pub new_in : (e : Member) (q : List Member) → IsIn e (front_add e q)
new_in e [] = inl refl
new_in e (m ∷ ms) = new_here e m (front_add e ms) ms (nat_lt m.place MIDDLE) (new_in e ms)

pub old_in : (e x : Member) (q : List Member) → IsIn x q → IsIn x (front_add e q)
old_in e x [] i = absurd i
old_in e x (m ∷ ms) i = old_here e x m (front_add e ms) ms (nat_lt m.place MIDDLE) (old_in e x ms) i

-- before a whole queue
pub before_all : (p : ℕ) (q : List Member) → ((e : Member) → IsIn e q → p < rank e) → IsRisingFrom p q
before_all p [] h = tt
before_all p (m ∷ ms) h = (h m (inl refl), before_all p ms (λ e i. h e (inr i)))

-- an add keeps the order where its place is above each one below the middle and below each other one
pub record GoesBetween (e : Member) (q : List Member) : Type 0 where
  pub small : (x : Member) → IsIn x q → x.at < INDEXES
  pub above : (x : Member) → IsIn x q → x.place < MIDDLE → rank x < rank e
  pub below : (x : Member) → IsIn x q → MIDDLE ≤ x.place → rank e < rank x

below_rest : (e m : Member) (ms : List Member) → IsInOrder (m ∷ ms) → MIDDLE ≤ m.place
    → GoesBetween e (m ∷ ms) → (x : Member) → IsIn x (m ∷ ms) → rank e < rank x
below_rest e m ms o l g x i =
    let f : rank m ≤ rank x = at_least m ms x o.0 i in
    let s : x.at < INDEXES = g.small x i in
    g.below x i (omega arith)

above_rest : (e m : Member) (ms : List Member) → IsRisingFrom (rank m) ms → rank m < rank e → (x : Member)
    → IsIn x (front_add e ms) → rank m < rank x
above_rest e m ms b a x i = elim (added_in e x ms i) [
  | inl s ↦ let g : rank x ≡ rank e = ap rank s in omega arith
  | inr j ↦ before_in (rank m) ms x b j
]

order_here : (e m : Member) (ms : List Member) (b : Bool) → nat_lt m.place MIDDLE ≡ b → IsInOrder (m ∷ ms)
    → GoesBetween e (m ∷ ms) → IsInOrder (front_add e ms)
    → IsInOrder (if b then m ∷ front_add e ms else e ∷ m ∷ ms)
order_here e m ms true t o g h =
    let u : m.place < MIDDLE = grind (arith, nat_tests) in
    (before_all (rank m) (front_add e ms) (above_rest e m ms o.0 (g.above m (inl refl) u)), h)
order_here e m ms false t o g h =
    let u : MIDDLE ≤ m.place = grind (arith, nat_tests) in
    (before_all (rank e) (m ∷ ms) (below_rest e m ms o u g), o)

pub order_added : (e : Member) (q : List Member) → IsInOrder q → GoesBetween e q → IsInOrder (front_add e q)
order_added e [] o g = (tt, tt)
order_added e (m ∷ ms) o g =
    order_here e m ms (nat_lt m.place MIDDLE) refl o g
    (order_added e ms o.1 (record {
      small = λ x i. g.small x (inr i);
      above = λ x i u. g.above x (inr i) u;
      below = λ x i u. g.below x (inr i) u;
    }))

-- a removal
kept_here : (who : ℕ) (x m : Member) (ms : List Member) (b : Bool) → (m.at == who) ≡ b
    → (IsIn x (without who ms) → IsIn x ms × (x.at ≢ who))
    → IsIn x (cond (not b) (m ∷ without who ms) (without who ms)) → IsIn x (m ∷ ms) × (x.at ≢ who)
kept_here who x m ms true t h i = (inr (h i).0, (h i).1)
kept_here who x m ms false t h (inl s) =
    let n : m.at ≢ who = grind (arith, nat_tests) in
    (inl s, λ k. n (ap (λ (y : Member). y.at) (sym s) ∙ k))
kept_here who x m ms false t h (inr i) = (inr (h i).0, (h i).1)

pub kept_in : (who : ℕ) (x : Member) (q : List Member) → IsIn x (without who q) → IsIn x q × (x.at ≢ who)
kept_in who x [] i = absurd i
kept_in who x (m ∷ ms) i = kept_here who x m ms (m.at == who) refl (kept_in who x ms) i

stays_here : (who : ℕ) (x m : Member) (ms : List Member) (b : Bool) → (m.at == who) ≡ b → x.at ≢ who
    → (IsIn x ms → IsIn x (without who ms)) → IsIn x (m ∷ ms)
    → IsIn x (cond (not b) (m ∷ without who ms) (without who ms))
stays_here who x m ms true t n h (inl s) =
    let k : m.at ≡ who = grind (arith, nat_tests) in
    absurd (n (ap (λ (y : Member). y.at) s ∙ k))
stays_here who x m ms true t n h (inr i) = h i
stays_here who x m ms false t n h (inl s) = inl s
stays_here who x m ms false t n h (inr i) = inr (h i)

pub stays_in : (who : ℕ) (x : Member) (q : List Member) → x.at ≢ who → IsIn x q → IsIn x (without who q)
stays_in who x [] n i = absurd i
stays_in who x (m ∷ ms) n i = stays_here who x m ms (m.at == who) refl n (stays_in who x ms n) i

removed_here : (who : ℕ) (m : Member) (ms : List Member) (b : Bool) → IsRisingFrom (rank m) ms
    → IsInOrder (without who ms) → IsInOrder (cond (not b) (m ∷ without who ms) (without who ms))
removed_here who m ms true f h = h
removed_here who m ms false f h =
    (before_all (rank m) (without who ms) (λ x i. before_in (rank m) ms x f (kept_in who x ms i).0), h)

pub order_removed : (who : ℕ) (q : List Member) → IsInOrder q → IsInOrder (without who q)
order_removed who [] o = tt
order_removed who (m ∷ ms) o = removed_here who m ms (m.at == who) o.0 (order_removed who ms o.1)
