-- What the scan finds is the queue's member, and what the words show is what the task sees.
use Rattle.std.specs.Prelude.{◌≡◌, ℕ, ◌-◌, ◌*◌, Bool, true, false, nat_lt, ◌<◌, ◌≤◌}
use Rattle.std.specs.Prelude.{if◌then◌else◌, min, List, slice_index, IfSome, Option, Some, None}
use Rattle.wait_model.specs.{declared.watches.Entry.Entry, declared.queues.Member.Member, Tasks.task_word}
use Rattle.wait_model.specs.{Tasks.task_of, declared.queues.Mark.Mark, Runs.State, declared.watches.Watch.Watch}
use Rattle.wait_model.specs.declared.layout.TheConstants.{TASKS, ENTRIES, MEMBERS, CONDITIONS, HEADS}
use Rattle.wait_model.specs.declared.layout.TheConstants.{PLACES, MIDDLE, FIRST_PRIORITY, FIRST_PLACE}
use Rattle.wait_model.specs.declared.layout.TheConstants.{INDEXES, EVENTS}
use Rattle.wait_model.specs.Watches.{IsThere, number_of}
use Rattle.wait_model.specs.Words.{entry_word, entry_of, held_of, spent_of, done_word, flag_of}
use Rattle.wait_model.specs.Tables.{mark_of, Table, value_of}
use Rattle.wait_model.specs.Queues.{stand_by, stand_of, is_entry, rank, rank_at, first_from, member_from, entry_from}
use Rattle.wait_model.specs.Queues.{entries_of, last_within, place_before, place_behind, front_place, tail_place}
use Rattle.wait_model.specs.Queues.{priority_place, even_above, even_below, IsIn}
use Rattle.wait_model.specs.Places.{within, front_for, tail_for, priority_for}
use Rattle.wait_model.specs.Reached.{IsSound, IsBookmark, IsInside, IsWithinAdds}
use Rattle.wait_model.specs.Locations.{Shows, Task as TaskWord, Entry as EntryWord, Bookmark as BookmarkWord}
use Rattle.wait_model.specs.Locations.{Flag as FlagWord, Head, cond_at, position_of, word_in, mark_word}
use Rattle.std.proofs.Common.{refl, arith, ap, sym, ◌∙◌, subst}
use Rattle.wait_model.proofs.WordLaws.DecodedWords.{task_read, held_read, spent_read, done_read_back, mark_read}
use Rattle.wait_model.proofs.WordLaws.DecodedWords.{no_mark_read}
use Rattle.wait_model.proofs.WordLaws.CondWords.{cond_located, number_below, number_value}
use Rattle.wait_model.proofs.QueueLaws.LinkedQueues.{queued_read}
use Rattle.wait_model.proofs.QueueLaws.QueueOrder.{IsFirstFrom, first_is, one_first}
use Rattle.wait_model.proofs.QueueLaws.QueueEnds.{IsLastWithin, last_of, one_last, entry_in, in_entries, order_entries}
use Rattle.std.proofs.lemmas.Bool.Decides.{nat_tests}
use Rattle.wait_core.specs.declared.scan.Span.{Span}
use Rattle.wait_core.specs.Scan.{is_in_span, prefers, IsPick, IsPicked, entry_in_words, shown_mark}
use Rattle.wait_core.specs.Scan.{shown_stand, found_place}
use Rattle.wait_core.proofs.IndexSearch.{counted_of, counts_is}

within_is : (low high p : ℕ) → low ≤ p → p < high → within low high p ≡ Some p
within_is low high p l h =
    let a : nat_lt p low ≡ false = grind (arith, nat_tests) in
    let b : nat_lt p high ≡ true = grind (arith, nat_tests) in
    rw (a, b) refl

-- what stands at a location of each class
pub entry_word_is : (words : List ℕ) (t : Table) (x : ℕ) → Shows words t → x < ENTRIES
    → slice_index words (position_of (EntryWord x)) ≡ entry_word (t.entry x)
entry_word_is words t x shown inside = shown.each (EntryWord x) inside

pub held_word_is : (words : List ℕ) (t : Table) (h : ℕ) → Shows words t → h < HEADS
    → held_of (slice_index words (position_of (Head h))) ≡ t.holder h
held_word_is words t h shown inside = ap held_of (shown.each (Head h) inside)
    ∙ held_read (t.holder h) (t.spent h)

pub spent_word_is : (words : List ℕ) (t : Table) (h : ℕ) → Shows words t → h < HEADS
    → spent_of (slice_index words (position_of (Head h))) ≡ t.spent h
spent_word_is words t h shown inside = ap spent_of (shown.each (Head h) inside)
    ∙ spent_read (t.holder h) (t.spent h)

pub cond_word_is : (words : List ℕ) (t : Table) (c : ℕ) → Shows words t → c < CONDITIONS
    → slice_index words (position_of (cond_at c)) ≡ word_in t (cond_at c)
cond_word_is words t c shown inside = shown.each (cond_at c) (cond_located c inside)

pub number_small : (c : Watch) → IsThere c → number_of c < CONDITIONS
number_small c there = number_below c there

pub value_is : (words : List ℕ) (t : Table) (c : Watch) → Shows words t → IsThere c
    → slice_index words (position_of (cond_at (number_of c))) ≡ value_of t.words c
value_is words t c shown there = cond_word_is words t (number_of c) shown (number_below c there)
    ∙ number_value t c there

module _ (words : List ℕ) (s : State) (n : ℕ) (shown : Shows words s.table) (sound : IsSound s n) where
  -- each entry word shows the entry
  pub entry_shown_is : (x : ℕ) → x < ENTRIES → entry_in_words words x ≡ s.table.entry x
  entry_shown_is x inside = ap entry_of (shown.each (EntryWord x) inside)
      ∙ queued_read s.table.entry s.table.mark s.queue n sound.linked x

  -- the words show what stands
  pub mark_shown_is : (t : ℕ) → t < TASKS → shown_mark words t ≡ s.table.mark t
  mark_shown_is t inside = ap mark_of (shown.each (BookmarkWord t) inside) ∙ read (s.table.mark t) refl
    where
      read : (o : Option Mark) → s.table.mark t ≡ o → mark_of (mark_word o) ≡ o
      read None is = no_mark_read
      read (Some k) is =
          let b : IsBookmark t k = sound.linked.marks t k is in
          let h : k.head < HEADS = b.head in
          mark_read k (omega arith) b.place

  abbrev stands : ℕ → Option Mark
  stands = stand_of s.table.entry s.table.mark

  stand_shown_is : (x : ℕ) → x < MEMBERS → shown_stand words x ≡ stands x
  stand_shown_is x inside = by (nat_lt x ENTRIES) refl
    where
      by : (b : Bool) → nat_lt x ENTRIES ≡ b
          → (if b then stand_by (entry_in_words words x) else shown_mark words (x - ENTRIES))
          ≡ (if b then stand_by (s.table.entry x) else s.table.mark (x - ENTRIES))
      by true h = ap stand_by (entry_shown_is x (grind (arith, nat_tests)))
      by false h = mark_shown_is (x - ENTRIES) (let u : ENTRIES ≤ x = grind (arith, nat_tests) in
          omega arith)

  -- no member has a number from MEMBERS on
  member_number : (x : ℕ) (k : Mark) → stands x ≡ Some k → x < MEMBERS
  member_number x k is = by (nat_lt x ENTRIES) refl is
    where
      by : (b : Bool) → nat_lt x ENTRIES ≡ b
          → (if b then stand_by (s.table.entry x) else s.table.mark (x - ENTRIES)) ≡ Some k → x < MEMBERS
      by true h q = let u : x < ENTRIES = grind (arith, nat_tests) in omega arith
      by false h q =
          let b : IsBookmark (x - ENTRIES) k = sound.linked.marks (x - ENTRIES) k q in
          let u : x - ENTRIES < TASKS = b.number in
          omega arith

  abbrev there : ℕ → Member → Mark
  there h m = record { head = h; place = m.place }

  member_shown : (h : ℕ) (m : Member) → IsIn m (s.queue h) → (m.at < MEMBERS)
      × (shown_stand words m.at ≡ Some (there h m))
  member_shown h m i =
      let is : stands m.at ≡ Some (there h m) = sound.linked.ordered.members h m i in
      let small : m.at < MEMBERS = member_number m.at (there h m) is in
      (small, stand_shown_is m.at small ∙ is)

  -- a member that a scan picked
  module _ (count : ℕ) (few : count ≤ MEMBERS) where
    pick_in : (span : Span) (b : Member) (h : IsPick (shown_stand words) count span b)
        → IsIn b (s.queue span.head) × (span.low ≤ rank b) × (rank b < span.high)
    pick_in span b h =
        let inside : b.at < count = h.inside in
        let is : stands b.at ≡ Some h.stand = sym (stand_shown_is b.at (omega arith)) ∙ h.stands in
        let q : IsInside s.queue n b.at h.stand = sound.linked.ordered.inside b.at h.stand is in
        let c = counted_of span b.at h.stand h.counted in
        let p : h.stand.place ≡ b.place = h.place in (
          subst (λ (j : ℕ). IsIn b (s.queue j)) c.0
              (subst (λ (p : ℕ). IsIn (record { at = b.at; place = p }) (s.queue h.stand.head)) h.place
              q.inside),
          omega (arith, c.1),
          omega (arith, c.2),
        )

    picked_best : (span : Span) (b m : Member) → IsPick (shown_stand words) count span b
        → IsIn m (s.queue span.head) → m.at < count → span.low ≤ rank m → rank m < span.high
        → prefers span (rank m) (rank b) ≡ false
    picked_best span b m h i small l u =
        let k = member_shown span.head m i in
        h.best m.at (there span.head m) small k.1 (counts_is span m.at (there span.head m) refl l u)

    picked_none : (span : Span) (m : Member) → IsPicked (shown_stand words) count span None
        → IsIn m (s.queue span.head) → m.at < count → span.low ≤ rank m → rank m < span.high → ⊥
    picked_none span m h i small l u =
        let k = member_shown span.head m i in
        let never : is_in_span span m.at (there span.head m) ≡ false = h m.at (there span.head m) small k.1 in
        let is_counted : is_in_span span m.at (there span.head m) ≡ true =
        counts_is span m.at (there span.head m) refl l u in
        let z : true ≡ false = sym is_counted ∙ never in cc

  -- a member stands far from the end of the places
  pub last_room : (h : ℕ) (m : Member) → IsIn m (s.queue h) → m.place < PLACES - 3
  last_room h m i =
      let is : stands m.at ≡ Some (there h m) = sound.linked.ordered.members h m i in
      let few : n ≤ EVENTS = sound.few in
      by (sound.linked.ordered.inside m.at (there h m) is).near few
    where
      by : IsWithinAdds n m.place → n ≤ EVENTS → m.place < PLACES - 3
      by (true, low, high) few = omega (arith, high, few)
      by (false, low, high) few = omega (arith, high, few)

  -- nor do adds come to the ends of the places: there is one more at the front, at the tail, and for priority
  spots : (h : ℕ) (m : Member) → IsIn m (s.queue h) → (m.place < MIDDLE → even_above m.place < MIDDLE)
      × (MIDDLE ≤ m.place → (MIDDLE ≤ even_below m.place) × (even_above m.place < PLACES))
  spots h m i =
      let is : stands m.at ≡ Some (there h m) = sound.linked.ordered.members h m i in
      let few : n ≤ EVENTS = sound.few in
      by (sound.linked.ordered.inside m.at (there h m) is).near few
    where
      by : IsWithinAdds n m.place → n ≤ EVENTS → (m.place < MIDDLE → even_above m.place < MIDDLE)
          × (MIDDLE ≤ m.place → (MIDDLE ≤ even_below m.place) × (even_above m.place < PLACES))
      by (true, low, high) few = (
        λ l. omega (arith, l, low, high, few),
        λ l. (omega (arith, l, low, high, few), omega (arith, l, low, high, few)),
      )
      by (false, low, high) few = (
        λ l. omega (arith, l, low, high, few),
        λ l. (omega (arith, l, low, high, few), omega (arith, l, low, high, few)),
      )

  -- every rank is below that of the end of the places
  pub below_end : (h : ℕ) (m : Member) → IsIn m (s.queue h) → rank m < rank_at PLACES
  below_end h m i =
      let p : m.place < PLACES - 3 = last_room h m i in
      let k : m.at < MEMBERS = (member_shown h m i).0 in
      omega arith

  abbrev first_span : ℕ → ℕ → Span
  first_span head least = record { head = head; low = least; high = rank_at PLACES; last = false }

  abbrev last_span : ℕ → ℕ → ℕ → Span
  last_span head low high = record { head = head; low = rank_at low; high = rank_at high; last = true }

  -- the first member from a rank on, of those below a number
  module _ (test : Member → Bool) (count : ℕ) (few : count ≤ MEMBERS)
      (tells : (m : Member) → m.at < MEMBERS → (test m ≡ true → m.at < count) × (m.at < count → test m ≡ true)) where
    first_shown : (head least : ℕ) (r : Option Member)
        → IsPicked (shown_stand words) count (first_span head least) r
        → IsFirstFrom test least (s.queue head) r
    first_shown head least None h = λ m i t.
        let small : m.at < count = (tells m (member_shown head m i).0).0 t in
        let never : (least ≤ rank m) → ⊥ = λ l. picked_none count few (first_span head least) m h i small l
        (below_end head m i) in omega arith
    first_shown head least (Some b) h =
        let p = pick_in count few (first_span head least) b h in (
          p.0,
          (tells b (member_shown head b p.0).0).1 h.inside,
          p.1,
          λ m i t l.
              let small : m.at < count = (tells m (member_shown head m i).0).0 t in
              let never : nat_lt (rank m) (rank b) ≡ false = picked_best count few (first_span head least) b m h i
              small l (below_end head m i) in
              grind (arith, nat_tests),
        )

    first_as : (head least : ℕ) (r : Option Member)
        → IsPicked (shown_stand words) count (first_span head least) r → r ≡ first_from test least (s.queue head)
    first_as head least r h = one_first test least (s.queue head) r (first_from test least (s.queue head))
        (sound.linked.ordered.order head) (first_shown head least r h)
        (first_is test least (s.queue head) (sound.linked.ordered.order head))

    -- a place from 2^40 on has no members behind it
    first_low : (head place least : ℕ) (r : Option Member) → least ≡ INDEXES * min place PLACES
        → IsFirstFrom test least (s.queue head) r → IsFirstFrom test (rank_at place) (s.queue head) r
    first_low head place least None is h = λ m i t.
        let low : rank m < least = h m i t in
        omega (arith, is)
    first_low head place least (Some b) is h =
        let low : least ≤ rank b = h.2 in
        let high : rank b < rank_at PLACES = below_end head b h.0 in (
          h.0,
          h.1,
          omega (arith, is),
          λ m i t l. h.3 m i t (omega (arith, is)),
        )

    first_placed : (head place least : ℕ) (r : Option Member) → least ≡ INDEXES * min place PLACES
        → IsPicked (shown_stand words) count (first_span head least) r
        → r ≡ first_from test (rank_at place) (s.queue head)
    first_placed head place least r is h = one_first test (rank_at place) (s.queue head) r
        (first_from test (rank_at place) (s.queue head)) (sound.linked.ordered.order head)
        (first_low head place least r is (first_shown head least r h))
        (first_is test (rank_at place) (s.queue head) (sound.linked.ordered.order head))

  any_number : (m : Member) → m.at < MEMBERS → (true ≡ true → m.at < MEMBERS) × (m.at < MEMBERS → true ≡ true)
  any_number m small = (λ _. small, λ _. refl)

  entry_number : (m : Member) → m.at < MEMBERS → (is_entry m ≡ true → m.at < ENTRIES) × (m.at < ENTRIES
      → is_entry m ≡ true)
  entry_number m small = (λ t. grind (arith, nat_tests), λ l. grind (arith, nat_tests))

  pub first_found : (head least : ℕ) (r : Option Member) → IsPicked (shown_stand words) MEMBERS
      (record { head = head; low = least; high = rank_at PLACES; last = false }) r
      → r ≡ member_from least (s.queue head)
  first_found head least r h = first_as (λ _. true) MEMBERS (omega arith) any_number head least r h

  pub member_placed : (head place least : ℕ) (r : Option Member) → least ≡ INDEXES * min place PLACES
      → IsPicked (shown_stand words) MEMBERS
      (record { head = head; low = least; high = rank_at PLACES; last = false }) r
      → r ≡ member_from (rank_at place) (s.queue head)
  member_placed head place least r is h = first_placed (λ _. true) MEMBERS (omega arith) any_number head place least r
      is h

  pub entry_found : (head least : ℕ) (r : Option Member) → IsPicked (shown_stand words) ENTRIES
      (record { head = head; low = least; high = rank_at PLACES; last = false }) r
      → r ≡ entry_from least (s.queue head)
  entry_found head least r h = first_as is_entry ENTRIES (omega arith) entry_number head least r h

  -- whoever stands within places has a rank within theirs
  within_ranks : (head low high : ℕ) (m : Member) → IsIn m (s.queue head) → low ≤ m.place → m.place < high
      → (rank_at low ≤ rank m) × (rank m < rank_at high)
  within_ranks head low high m i l u =
      let k : m.at < MEMBERS = (member_shown head m i).0 in
      (omega arith, omega arith)

  last_shown : (head low high : ℕ) (r : Option Member) → IsPicked (shown_stand words) MEMBERS
      (last_span head low high) r → IsLastWithin low high (s.queue head) r
  last_shown head low high None h = λ m i l u.
      let w = within_ranks head low high m i l u in
      picked_none MEMBERS (omega arith) (last_span head low high) m h i (member_shown head m i).0 w.0 w.1
  last_shown head low high (Some b) h =
      let p = pick_in MEMBERS (omega arith) (last_span head low high) b h in
      let k : b.at < MEMBERS = (member_shown head b p.0).0 in (
        p.0,
        omega (arith, p.1),
        omega (arith, p.2),
        λ m i l u.
            let w = within_ranks head low high m i l u in
            let never : nat_lt (rank b) (rank m) ≡ false = picked_best MEMBERS (omega arith)
            (last_span head low high) b m h i (member_shown head m i).0 w.0 w.1 in grind (arith, nat_tests),
      )

  pub last_found : (head low high : ℕ) (r : Option Member) → IsPicked (shown_stand words) MEMBERS
      (record { head = head; low = INDEXES * low; high = INDEXES * high; last = true }) r
      → r ≡ last_within low high (s.queue head)
  last_found head low high r h = one_last low high (s.queue head) r (last_within low high (s.queue head))
      (sound.linked.ordered.order head) (last_shown head low high r h)
      (last_of low high (s.queue head) (sound.linked.ordered.order head))

  -- the same of the entries alone
  last_entry_shown : (head low high : ℕ) (r : Option Member) → IsPicked (shown_stand words) ENTRIES
      (last_span head low high) r → IsLastWithin low high (entries_of (s.queue head)) r
  last_entry_shown head low high None h = λ m i l u.
      let e = entry_in m (s.queue head) i in
      let w = within_ranks head low high m e.0 l u in
      picked_none ENTRIES (omega arith) (last_span head low high) m h e.0
      ((entry_number m (member_shown head m e.0).0).0 e.1) w.0 w.1
  last_entry_shown head low high (Some b) h =
      let p = pick_in ENTRIES (omega arith) (last_span head low high) b h in
      let k : b.at < MEMBERS = (member_shown head b p.0).0 in (
        in_entries b (s.queue head) ((entry_number b k).1 h.inside) p.0,
        omega (arith, p.1),
        omega (arith, p.2),
        λ m i l u.
            let e = entry_in m (s.queue head) i in
            let w = within_ranks head low high m e.0 l u in
            let never : nat_lt (rank b) (rank m) ≡ false = picked_best ENTRIES (omega arith)
            (last_span head low high) b m h e.0 ((entry_number m (member_shown head m e.0).0).0 e.1) w.0 w.1 in
            grind (arith, nat_tests),
      )

  pub last_entry_found : (head low high : ℕ) (r : Option Member) → IsPicked (shown_stand words) ENTRIES
      (record { head = head; low = INDEXES * low; high = INDEXES * high; last = true }) r
      → r ≡ last_within low high (entries_of (s.queue head))
  last_entry_found head low high r h = one_last low high (entries_of (s.queue head)) r
      (last_within low high (entries_of (s.queue head))) (order_entries (s.queue head) (sound.linked.ordered.order
      head))
      (last_entry_shown head low high r h) (last_of low high (entries_of (s.queue head))
      (order_entries (s.queue head) (sound.linked.ordered.order head)))

  -- the places that adds take, as the crate below computes them
  pub front_left : (h : ℕ) (r : Option Member) → r ≡ member_from (rank_at MIDDLE) (s.queue h)
      → front_for (found_place r) ≡ Some (front_place (s.queue h))
  front_left h r is = ap (λ (o : Option Member). front_for (found_place o)) is
      ∙ by (member_from (rank_at MIDDLE) (s.queue h))
      (first_is (λ _. true) (rank_at MIDDLE) (s.queue h) (sound.linked.ordered.order h))
    where
      by : (o : Option Member) → IsFirstFrom (λ _. true) (rank_at MIDDLE) (s.queue h) o
          → front_for (found_place o) ≡ Some (place_before o)
      by None l = refl
      by (Some m) l =
          let k : m.at < MEMBERS = (member_shown h m l.0).0 in
          let far : rank_at MIDDLE ≤ rank m = l.2 in
          let p = (spots h m l.0).1 (omega arith) in
          let e : even_below m.place ≤ m.place = omega arith in
          within_is MIDDLE PLACES (even_below m.place) p.0
          (let z : m.place < PLACES - 3 = last_room h m l.0 in omega (arith, e))

  pub tail_left : (h : ℕ) (r : Option Member) → r ≡ last_within MIDDLE PLACES (s.queue h)
      → tail_for (found_place r) ≡ Some (tail_place (s.queue h))
  tail_left h r is = ap (λ (o : Option Member). tail_for (found_place o)) is
      ∙ by (last_within MIDDLE PLACES (s.queue h))
      (last_of MIDDLE PLACES (s.queue h) (sound.linked.ordered.order h))
    where
      by : (o : Option Member) → IsLastWithin MIDDLE PLACES (s.queue h) o
          → tail_for (found_place o) ≡ Some (place_behind FIRST_PLACE o)
      by None l = refl
      by (Some m) l =
          let far : MIDDLE ≤ m.place = l.1 in
          let p = (spots h m l.0).1 far in
          within_is MIDDLE PLACES (even_above m.place) (omega (arith, far)) p.1

  pub priority_left : (h : ℕ) (r : Option Member) → r ≡ last_within 0 MIDDLE (entries_of (s.queue h))
      → priority_for (found_place r) ≡ Some (priority_place (s.queue h))
  priority_left h r is = ap (λ (o : Option Member). priority_for (found_place o)) is
      ∙ by (last_within 0 MIDDLE (entries_of (s.queue h))) (last_of 0 MIDDLE (entries_of (s.queue h))
      (order_entries (s.queue h) (sound.linked.ordered.order h)))
    where
      by : (o : Option Member) → IsLastWithin 0 MIDDLE (entries_of (s.queue h)) o
          → priority_for (found_place o) ≡ Some (place_behind FIRST_PRIORITY o)
      by None l = refl
      by (Some m) l =
          let near : m.place < MIDDLE = l.2 in
          within_is 0 MIDDLE (even_above m.place) (omega arith)
          ((spots h m (entry_in m (s.queue h) l.0).0).0 near)

  -- the records
  pub task_shown_is : (t : ℕ) → t < TASKS → task_of (slice_index words (position_of (TaskWord t))) ≡ s.table.task t
  task_shown_is t inside = ap task_of (shown.each (TaskWord t) inside) ∙ task_read (s.table.task t) (sound.lawful t)

-- what an event finds in its word
pub task_found : (words : List ℕ) (s : State) (n : ℕ) (shown : Shows words s.table) (sound : IsSound s n) (t found : ℕ)
    → t < TASKS → found ≡ slice_index words (position_of (TaskWord t)) → task_of found ≡ s.table.task t
task_found words s n shown sound t found inside is = ap task_of is ∙ task_shown_is words s n shown sound t inside

pub spent_found : (words : List ℕ) (t : Table) (h found : ℕ) → Shows words t → h < HEADS
    → found ≡ slice_index words (position_of (Head h)) → spent_of found ≡ t.spent h
spent_found words t h found shown inside is = ap spent_of is ∙ spent_word_is words t h shown inside

pub cond_found : (words : List ℕ) (t : Table) (c found : ℕ) → Shows words t → c < CONDITIONS
    → found ≡ slice_index words (position_of (cond_at c)) → found ≡ word_in t (cond_at c)
cond_found words t c found shown inside is = is ∙ cond_word_is words t c shown inside

-- what stands in a record's word and in a flag's
pub task_word_is : (words : List ℕ) (t : Table) (i : ℕ) → Shows words t → i < TASKS
    → slice_index words (position_of (TaskWord i)) ≡ task_word (t.task i)
task_word_is words t i shown inside = shown.each (TaskWord i) inside

pub flag_is : (words : List ℕ) (t : Table) (x : ℕ) → Shows words t → x < ENTRIES
    → slice_index words (position_of (FlagWord x)) ≡ done_word (t.flag x) (t.done x)
flag_is words t x shown inside = shown.each (FlagWord x) inside

pub flag_word_is : (words : List ℕ) (t : Table) (x : ℕ) → Shows words t → x < ENTRIES
    → flag_of (slice_index words (position_of (FlagWord x))) ≡ t.flag x
flag_word_is words t x shown inside = ap flag_of (flag_is words t x shown inside)
    ∙ done_read_back (t.flag x) (t.done x)

-- a place has 40 bits
pub entry_small : (w : ℕ) (o : Option Entry) → o ≡ entry_of w → IfSome o (λ e. e.place < PLACES)
unfolding entry_of
entry_small w None h = tt
entry_small w (Some e) h = grind arith

pub mark_small : (w : ℕ) (o : Option Mark) → o ≡ mark_of w → IfSome o (λ k. k.place < PLACES)
unfolding mark_of
mark_small w None h = tt
mark_small w (Some k) h = grind arith
