-- Where a walk goes on, by the entries that a scan finds.
use Rattle.std.proofs.lemmas.Bool.Decides.{nat_tests}
use Rattle.wait_model.specs.{declared.queues.Member.Member, declared.watches.Watch.Watch, Watches.is_for, Runs.State}
use Rattle.wait_model.specs.{Runs.arrives_from, Reached.IsSound, Locations.Shows}
use Rattle.wait_model.specs.declared.layout.TheConstants.{PLACES, INDEXES, BREAK}
use Rattle.wait_model.specs.Queues.{rank, rank_at, member_from, entry_from, members_from, is_entry}
use Rattle.wait_model.specs.Queues.{Arrival, arrive, IsIn, IsInOrder}
use Rattle.std.proofs.Common.{refl, sym, ◌∙◌, ap, subst, arith, inl, inr}
use Rattle.std.specs.Prelude.{ℕ, ◌≡◌, ◌+◌, ◌*◌, ◌<◌, ◌≤◌, ◌&&◌, Bool, true, false, cond, min, nat_le, nat_lt, is_some}
use Rattle.std.specs.Prelude.{if◌then◌else◌, List, [], ◌∷◌, Option, Some, None}
use Rattle.wait_model.proofs.QueueLaws.QueueOrder.{IsFirstFrom, before_in, first_is}
use Rattle.wait_core.specs.Arrivals.{arrived}
use Rattle.wait_core.proofs.FoundMembers.{below_end}

-- no member has a rank from one on and below another
between_here : (low high : ℕ) (m : Member) (ms : List Member) → low ≤ high → (low ≤ rank m → high ≤ rank m)
    → members_from low ms ≡ members_from high ms → members_from low (m ∷ ms) ≡ members_from high (m ∷ ms)
between_here low high m ms le none h =
    let t : nat_le low (rank m) ≡ nat_le high (rank m) = grind (arith, nat_tests) in
    ap (λ b. cond b (m ∷ members_from low ms) (members_from low ms)) t
    ∙ ap (λ (r : List Member). cond (nat_le high (rank m)) (m ∷ r) r) h

pub between : (low high : ℕ) (q : List Member) → low ≤ high
    → ((x : Member) → IsIn x q → low ≤ rank x → high ≤ rank x) → members_from low q ≡ members_from high q
between low high [] le none = refl
between low high (m ∷ ms) le none = between_here low high m ms le (none m (inl refl))
    (between low high ms le (λ x i. none x (inr i)))

-- each member has the rank
pub all_from : (least : ℕ) (q : List Member) → ((x : Member) → IsIn x q → least ≤ rank x)
    → members_from least q ≡ q
all_from least [] h = refl
all_from least (m ∷ ms) h =
    let l : least ≤ rank m = h m (inl refl) in
    let t : nat_le least (rank m) ≡ true = grind (arith, nat_tests) in
    ap (λ b. cond b (m ∷ members_from least ms) (members_from least ms)) t
    ∙ ap (λ (r : List Member). m ∷ r) (all_from least ms (λ x i. h x (inr i)))

-- the members behind the first
behind : (m : Member) (ms : List Member) → IsInOrder (m ∷ ms) → members_from (rank m + 1) (m ∷ ms) ≡ ms
behind m ms o =
    let f : nat_le (rank m + 1) (rank m) ≡ false = grind (arith, nat_tests) in
    ap (λ b. cond b (m ∷ members_from (rank m + 1) ms) (members_from (rank m + 1) ms)) f
    ∙ all_from (rank m + 1) ms (λ x i. let l : rank m < rank x = before_in (rank m) ms x o.0 i in omega arith)

-- an entry that a scan from a rank on finds
found_in : (least : ℕ) (q : List Member) (x : Member) → IsInOrder q → entry_from least q ≡ Some x
    → IsIn x q × (least ≤ rank x)
found_in least q x o e = by (entry_from least q) (first_is is_entry least q o) e
  where
    by : (r : Option Member) → IsFirstFrom is_entry least q r → r ≡ Some x → IsIn x q × (least ≤ rank x)
    by None h e = absurd (cc)
    by (Some m) h e = let s : m ≡ x = cc in subst (λ (y : Member). IsIn y q × (least ≤ rank y)) s (h.0, h.2)

-- a member before another isn't behind it
not_ahead : (m x : Member) (ms : List Member) → rank m < rank x
    → members_from (rank x + 1) (m ∷ ms) ≡ members_from (rank x + 1) ms
not_ahead m x ms l =
    let f : nat_le (rank x + 1) (rank m) ≡ false = grind (arith, nat_tests) in
    ap (λ b. cond b (m ∷ members_from (rank x + 1) ms) (members_from (rank x + 1) ms)) f

-- a walk that has called few enough entries in its hold passes what is no entry
module _ (key : Member → Bool) (calls : ℕ) (few : nat_lt BREAK calls ≡ false) where
  abbrev at_end : Arrival
  at_end = record { calls = calls; member = None; breaks = false }

  abbrev at_entry : Member → Arrival
  at_entry m = record { calls = calls; member = Some m; breaks = false }

  -- one member
  passes : (m : Member) (ms : List Member) → is_entry m ≡ false → arrive key calls (m ∷ ms) ≡ arrive key calls ms
  passes m ms other = rw (few, other) refl

  meets : (m : Member) (ms : List Member) → is_entry m ≡ true
      → arrive key calls (m ∷ ms) ≡ (if key m then at_entry m else arrive key (calls + 1) ms)
  meets m ms is = rw (few, is) refl

  -- no entry has the rank
  none_here : (least : ℕ) (m : Member) (ms : List Member) (a b : Bool) → is_entry m ≡ a
      → (entry_from least ms ≡ None → arrive key calls (members_from least ms) ≡ at_end)
      → (if a && b then Some m else entry_from least ms) ≡ None
      → arrive key calls (cond b (m ∷ members_from least ms) (members_from least ms)) ≡ at_end
  none_here least m ms true true t h e = absurd (cc)
  none_here least m ms false true t h e = passes m (members_from least ms) t ∙ h e
  none_here least m ms true false t h e = h e
  none_here least m ms false false t h e = h e

  pub none_ahead : (least : ℕ) (q : List Member) → entry_from least q ≡ None
      → arrive key calls (members_from least q) ≡ at_end
  none_ahead least [] e = refl
  none_ahead least (m ∷ ms) e = none_here least m ms (is_entry m) (nat_le least (rank m)) refl
      (none_ahead least ms) e

  -- an entry has it
  abbrev Comes : ℕ → Member → List Member → List Member → Type 0
  Comes least x q rest = arrive key calls (members_from least q) ≡ (if key x then at_entry x
      else arrive key (calls + 1) rest)

  later : (least : ℕ) (m x : Member) (ms : List Member) → nat_le least (rank m) ≡ false → IsInOrder (m ∷ ms)
      → Comes least x ms (members_from (rank x + 1) ms) → entry_from least ms ≡ Some x
      → Comes least x ms (members_from (rank x + 1) (m ∷ ms))
  later least m x ms u o h e =
      let k : least ≤ rank x = (found_in least ms x o.1 e).1 in
      let l : rank m < rank x = grind (arith, nat_tests) in
      h ∙ ap (λ (r : List Member). if key x then at_entry x else arrive key (calls + 1) r)
      (sym (not_ahead m x ms l))

  some_here : (least : ℕ) (m x : Member) (ms : List Member) (a b : Bool) → is_entry m ≡ a
      → nat_le least (rank m) ≡ b → IsInOrder (m ∷ ms)
      → (entry_from least ms ≡ Some x → Comes least x ms (members_from (rank x + 1) ms))
      → (if a && b then Some m else entry_from least ms) ≡ Some x
      → arrive key calls (cond b (m ∷ members_from least ms) (members_from least ms)) ≡ (if key x then at_entry x
      else arrive key (calls + 1) (members_from (rank x + 1) (m ∷ ms)))
  some_here least m x ms true true t u o h e =
      let s : m ≡ x = cc in
      let l : least ≤ rank m = grind (arith, nat_tests) in
      let all : members_from least ms ≡ ms = all_from least ms
      (λ y i. let f : rank m < rank y = before_in (rank m) ms y o.0 i in omega arith) in
      meets m (members_from least ms) t
      ∙ ap (λ (r : List Member). if key m then at_entry m else arrive key (calls + 1) r)
      (all ∙ sym (behind m ms o))
      ∙ ap (λ (y : Member). if key y then at_entry y
      else arrive key (calls + 1) (members_from (rank y + 1) (m ∷ ms))) s
  some_here least m x ms false true t u o h e =
      let l : rank m < rank x = before_in (rank m) ms x o.0 (found_in least ms x o.1 e).0 in
      passes m (members_from least ms) t ∙ h e
      ∙ ap (λ (r : List Member). if key x then at_entry x else arrive key (calls + 1) r) (sym (not_ahead m x ms l))
  some_here least m x ms true false t u o h e = later least m x ms u o (h e) e
  some_here least m x ms false false t u o h e = later least m x ms u o (h e) e

  pub some_ahead : (least : ℕ) (q : List Member) (x : Member) → IsInOrder q → entry_from least q ≡ Some x
      → Comes least x q (members_from (rank x + 1) q)
  some_ahead least [] x o e = absurd (cc)
  some_ahead least (m ∷ ms) x o e = some_here least m x ms (is_entry m) (nat_le least (rank m)) refl refl o
      (some_ahead least ms x o.1) e

-- a walk that has called enough entries breaks before any member
module _ (key : Member → Bool) (calls : ℕ) (enough : nat_lt BREAK calls ≡ true) where
  abbrev before : Option Member → Arrival
  before r = record { calls = calls; member = r; breaks = is_some r }

  breaks_here : (least : ℕ) (m : Member) (ms : List Member) (b : Bool)
      → arrive key calls (members_from least ms) ≡ before (member_from least ms)
      → arrive key calls (cond b (m ∷ members_from least ms) (members_from least ms))
      ≡ before (if b then Some m else member_from least ms)
  breaks_here least m ms true h = rw enough refl
  breaks_here least m ms false h = h

  pub breaks_ahead : (least : ℕ) (q : List Member)
      → arrive key calls (members_from least q) ≡ before (member_from least q)
  breaks_ahead least [] = refl
  breaks_ahead least (m ∷ ms) = breaks_here least m ms (nat_le least (rank m)) (breaks_ahead least ms)

-- the walk of a scan: it begins at a rank that stands for the place
module _ (words : List ℕ) (s : State) (n : ℕ) (shown : Shows words s.table) (sound : IsSound s n) (head : ℕ) (c : Watch)
  where
    abbrev walks_on : ℕ → ℕ → Arrival
    walks_on calls least = arrive (λ m. is_for c (s.table.entry m.at)) calls (members_from least (s.queue head))

    pub walk_begins : (place least called : ℕ) → least ≡ INDEXES * min place PLACES
        → arrives_from s.table.entry c place called (s.queue head) ≡ walks_on called least
    walk_begins place least called is = sym (ap (arrive (λ m. is_for c (s.table.entry m.at)) called)
        (between least (rank_at place) (s.queue head) (omega (arith, is))
        (λ x i l. let u : rank x < rank_at PLACES = below_end words s n shown sound head x i in omega (arith, is))))

    module _ (calls least : ℕ) (all : Arrival) (goes : all ≡ walks_on calls least) where
      few_calls : calls ≤ BREAK → nat_lt BREAK calls ≡ false
      few_calls few = grind (arith, nat_tests)

      -- behind its last entry
      pub walk_ends : calls ≤ BREAK → None ≡ entry_from least (s.queue head)
          → record { calls = calls; member = None; breaks = false } ≡ arrived all
      walk_ends few none = sym (ap arrived (goes ∙ none_ahead (λ m. is_for c (s.table.entry m.at)) calls
          (few_calls few) least (s.queue head) (sym none)))

      -- at an entry
      module _ (few : calls ≤ BREAK) (m : Member) (first : Some m ≡ entry_from least (s.queue head)) (t : Bool)
          (test : t ≡ is_for c (s.table.entry m.at)) where
        comes : all ≡ (if t then record { calls = calls; member = Some m; breaks = false }
            else walks_on (calls + 1) (rank m + 1))
        comes = goes ∙ some_ahead (λ m. is_for c (s.table.entry m.at)) calls (few_calls few) least (s.queue head) m
            (sound.linked.ordered.order head) (sym first)
            ∙ ap (λ b. if b then record { calls = calls; member = Some m; breaks = false }
            else walks_on (calls + 1) (rank m + 1)) (sym test)

        pub walk_calls : t ≡ true → record { calls = calls; member = Some m; breaks = false } ≡ arrived all
        walk_calls met = sym (ap arrived (comes
            ∙ ap (λ b. if b then record { calls = calls; member = Some m; breaks = false }
            else walks_on (calls + 1) (rank m + 1)) met))

        pub walk_passes : (next : ℕ) → next ≡ rank m + 1 → t ≡ false → all ≡ walks_on (calls + 1) next
        walk_passes next is other = comes
            ∙ ap (λ b. if b then record { calls = calls; member = Some m; breaks = false }
            else walks_on (calls + 1) (rank m + 1)) other
            ∙ ap (walks_on (calls + 1)) (sym is)

      -- before a member
      pub walk_breaks : BREAK < calls → (r : Option Member) → r ≡ member_from least (s.queue head) → (b : Bool)
          → b ≡ is_some r → record { calls = calls; member = r; breaks = b } ≡ arrived all
      walk_breaks enough r first b is = sym (ap arrived (goes
          ∙ breaks_ahead (λ m. is_for c (s.table.entry m.at)) calls (grind (arith, nat_tests)) least (s.queue head)
          ∙ ap (λ (o : Option Member). record { calls = calls; member = o; breaks = is_some o }) (sym first)
          ∙ ap (λ x. record { calls = calls; member = r; breaks = x }) (sym is)))
