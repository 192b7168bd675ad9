-- A hold looks over its members for an entry, and the first of these is the one that a selection takes.
use Rattle.std.proofs.Common.{◌∙◌, ap, sym, refl, subst, arith}
use Rattle.std.proofs.lemmas.Bool.Decides.{nat_tests}
use Rattle.std.proofs.lemmas.List.{get_or-map, length-map}
use Rattle.std.specs.Prelude.{ℕ, ◌≡◌, ◌<◌, ◌≤◌, ◌+◌, ◌-◌, ◌/◌, ◌%◌, nat_lt, if◌then◌else◌, Bool, true, false, Option}
use Rattle.std.specs.Prelude.{Some, None, List, length, map, slice_index, slice_index_or, MatchBool}
use Rattle.wait_model.specs.{declared.entry_words.EntryWord.EntryWord, declared.queues.CalledEntry.CalledEntry}
use Rattle.wait_model.specs.{declared.queues.Member.Member as Stand, Watches.owner}
use Rattle.wait_model.specs.declared.layout.TheConstants.{ENTRIES, SLOTS, TASKS}
use Rattle.wait_model.specs.Queues.{IsIn, entry_from, is_entry, rank}
use Rattle.wait_model.specs.Runs.{called_as, called_by, called_of}
use Rattle.wait_model.proofs.QueueLaws.QueueOrder.{IsFirstFrom, first_is}
use Rattle.wait_rule.specs.{Known.Known, Queues.index, Shown.shown_entry, Shown.shown_queue}
use Rattle.wq_head.specs.{declared.lists.Member.Member, declared.lists.Members.Members, Selects.ShowsNoEntry}
use Rattle.wq_head.specs.Lists.{member_by, members_in, stand_in}
use Rattle.wq_head.specs.declared.lists.Member.TheVariants as member
use Rattle.wq_head.proofs.FirstEntries.{index_of}
use Rattle.wq_head.proofs.MemberStands.{entry_shown, few, shown_place}
use Rattle.wq_head.proofs.SelectingHold.{InSelection, first_here, none_left, passes_mark}
use Rattle.wq_head.proofs.ShownQueue.{queue_has, queue_in_order, queue_of}
use Rattle.count_sem.specs.Passes.{HasWaiter}

-- where an entry is shown, the queue has a first one
module _ (k : Known) (shows : HasWaiter k) where
  abbrev m : Stand
  m = record { at = shows.0; place = shows.1.place }

  there : IsIn m (shown_queue k)
  there = let low = shows.2 in queue_of k m (omega (arith, low)) (shown_place k shows.0 shows.1 shows.2 shows.3)

  first_by : (o : Option Stand) → entry_from 0 (shown_queue k) ≡ o
      → (c : CalledEntry) × (called_by (shown_entry k) o ≡ Some c)
  first_by None is =
      let none = subst (IsFirstFrom is_entry 0 (shown_queue k)) is
      (first_is is_entry 0 (shown_queue k) (queue_in_order k)) in
      let l : rank m < 0 = none m there (few shows.0 shows.2) in
      absurd (omega (arith, l))
  first_by (Some s) is =
      let first = subst (IsFirstFrom is_entry 0 (shown_queue k)) is
      (first_is is_entry 0 (shown_queue k) (queue_in_order k)) in
      let entry = first.1 in
      let low : s.at < ENTRIES = grind (arith, nat_tests, entry) in
      let e = entry_shown k s.at s.place low (queue_has k s first.0).1 in
      (called_of (owner s.at) e.0, ap (called_as (owner s.at)) e.1)

  pub first_waits : (c : CalledEntry) × (called_by (shown_entry k) (entry_from 0 (shown_queue k)) ≡ Some c)
  first_waits = first_by (entry_from 0 (shown_queue k)) refl

-- a member of the list, by its number
entry_low : (words : List ℕ) (n t s : ℕ) (w : EntryWord) → member_by words n ≡ member.Entry t s w → index t s < ENTRIES
entry_low words n t s w is = by (nat_lt n ENTRIES) refl is
  where
    by : (b : Bool) → nat_lt n ENTRIES ≡ b
        → (if b then member.Entry (n / SLOTS) (n % SLOTS) (record { 0 = slice_index words n })
        else member.Mark ((n - ENTRIES) % TASKS) (slice_index words n)) ≡ member.Entry t s w → index t s < ENTRIES
    by true low at =
        let same : index (n / SLOTS) (n % SLOTS) ≡ index t s = ap (λ (m : Member). (stand_in m).at) at in
        let here = index_of n in
        let l : n < ENTRIES = grind (arith, nat_tests, low) in
        omega (arith, same, here, l)
    by false high at = absurd (cc)

module _ (old k : Known) (list : Members) (queue : map stand_in (members_in list) ≡ shown_queue k) (i : ℕ)
    (s : InSelection old k k i 0) where
  long : length (members_in list) ≡ length (shown_queue k)
  long = sym (length-map (members_in list) stand_in) ∙ ap length queue

  module _ (inside : i < length (members_in list)) (m : Member) (here : m ≡ slice_index_or (members_in list) i m) where
    in_queue : i < length (shown_queue k)
    in_queue = omega (arith, inside, long)

    is_there : stand_in m ≡ slice_index_or (shown_queue k) i (stand_in m)
    is_there = ap stand_in here ∙ (sym (get_or-map stand_in (members_in list) i m (stand_in m) inside)
        ∙ ap (λ (q : List Stand). slice_index_or q i (stand_in m)) queue)

    pub entry_found : (stand_in m).at < ENTRIES → HasWaiter k
    entry_found low =
        let f = first_here old k k i 0 s (record { member = (stand_in m).at; place = (stand_in m).place }) in_queue
        is_there
        low in
        let e = entry_shown k (stand_in m).at f.place low f.stands in
        ((stand_in m).at, e.0, low, e.1)

    pub mark_passed : ENTRIES ≤ (stand_in m).at → InSelection old k k (i + 1) 0
    mark_passed far = passes_mark old k k i 0 s (record { member = (stand_in m).at; place = (stand_in m).place })
        in_queue
        is_there far

  pub nobody_left : length (members_in list) ≤ i → ShowsNoEntry k
  nobody_left all = none_left old k k i 0 s (omega (arith, all, long))

-- the one at a position of the list is one of its members
pub listed_low : (list : Members) (i : ℕ) (t s : ℕ) (w : EntryWord) → i < length (members_in list)
    → member.Entry t s w ≡ slice_index_or (members_in list) i (member.Entry t s w) → index t s < ENTRIES
listed_low list i t s w inside here =
    let few : i < length list.order.items = let l = length-map list.order.items (member_by list.words) in
    omega (arith, inside, l) in
    entry_low list.words (slice_index_or list.order.items i 0) t s w
    (sym (here ∙ get_or-map (member_by list.words) list.order.items i 0 (member.Entry t s w) few))

-- what the look answered
pub waiter_in : (k : Known) (b : Bool) → b ≡ true → MatchBool b (HasWaiter k) (ShowsNoEntry k) → HasWaiter k
waiter_in k b is = subst (λ (c : Bool). MatchBool c (HasWaiter k) (ShowsNoEntry k) → HasWaiter k) (sym is) (λ h. h)

pub nobody_in : (k : Known) (b : Bool) → b ≡ false → MatchBool b (HasWaiter k) (ShowsNoEntry k) → ShowsNoEntry k
nobody_in k b is = subst (λ (c : Bool). MatchBool c (HasWaiter k) (ShowsNoEntry k) → ShowsNoEntry k) (sym is) (λ h. h)
