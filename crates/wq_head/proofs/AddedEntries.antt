-- The places of adds by a whole book, and the entries that stand there.
use Rattle.std.proofs.Common.{◌∙◌, ap, sym, refl, subst, inl, inr, eq-eqb, arith}
use Rattle.std.proofs.lemmas.Bool.{and_right}
use Rattle.std.proofs.lemmas.Bool.Decides.{nat_tests}
use Rattle.std.specs.Prelude.{ℕ, ◌≡◌, ◌+◌, ◌-◌, ◌%◌, ◌<◌, ◌≤◌, ◌&&◌, ◌||◌, ◌==◌, not}
use Rattle.std.specs.Prelude.{Bool, true, false, nat_lt, if◌then◌else◌, Option, Some, None, length}
use Rattle.std.specs.Prelude.{IfErr, IfOk, Result, Ok, Err}
use Rattle.std.proofs.lemmas.Result.{IfOk-weaker}
use Rattle.wait_model.specs.{declared.queues.Form.Form, declared.watches.Watch.Watch, declared.watches.Kind.Kind}
use Rattle.wait_model.specs.{declared.watches.Entry.Entry, Words.entry_of, Fold.after}
use Rattle.wait_model.specs.declared.layout.TheConstants.{SLOTS, ENTRIES, MEMBERS, MEMBER_WORDS}
use Rattle.wait_model.specs.declared.layout.TheConstants.{PLACES, MIDDLE, FIRST_PLACE, FIRST_PRIORITY}
use Rattle.wait_model.specs.declared.layout.TheConstants.{FIRST_DONE_HEAD}
use Rattle.wait_model.specs.Watches.{is_page, head_of}
use Rattle.wait_model.specs.Queues.{even_below, even_above}
use Rattle.wait_model.specs.Places.{front_for, tail_for, priority_for}
use Rattle.wait_model.specs.Views.{View as Told, off, look_at, is_trying_for}
use Rattle.wait_model.specs.declared.queues.Form.TheVariants as forms
use Rattle.wait_model.specs.declared.watches.Kind.TheVariants as kind
use Rattle.wait_model.specs.declared.steps.Step.TheVariants as step
use Rattle.wait_model.proofs.Functions.{put_at, put_same}
use Rattle.wait_rule.specs.declared.journal.Item.TheVariants as item
use Rattle.wait_rule.specs.{Known.Known, LookCounts.LooksAtMost, Shown.shown_queue, Members.IsStanding}
use Rattle.wait_rule.specs.{Asked.nothing_asked, Pages.uses_flag}
use Rattle.wait_rule.specs.Queues.{place_by, StandsIn, IsLowest, IsHighest, IsFrontPlace, IsTailPlace, IsPriorityPlace}
use Rattle.wait_rule.specs.Queues.{KnewEntry, MayQueue, IsPlaceFor, IsWholeBook, saw, index}
use Rattle.wait_rule.specs.Says.{Debts, Excuse, IsOutBut, OwesBut, TriesNone, added, asks_for, told_of, stored_with}
use Rattle.wait_rule.specs.Stays.{Stays, only, with_entry, with_left_entry, Carries, only_looks, queue_cell_change}
use Rattle.wait_rule.specs.Stays.{queue_change, take_off_change}
use Rattle.wait_rule.proofs.KnownLaws.Debts.{entries_debts, queued_debts, queues_quiet, stored_debts}
use Rattle.wq_head.proofs.{AskedHolds.looks_unasked, CarriedHolds.looks_carried, CountedLooks.counted_add}
use Rattle.wq_head.proofs.FirstAndLast.{below_or}
use Rattle.wq_head.proofs.OneMoreLook.{saw_told, saw_looks, whole_of, looks_on, holding_on}
use Rattle.wait_rule.proofs.KnownLaws.StayingParts.{stays_on, stays_but, owes_also, owes_left, owes_out}
use Rattle.wq_head.specs.{declared.looks.ShownMember.ShownMember, Holds.IsHolding, Members.AreStanding}
use Rattle.wq_head.specs.declared.adds.Worn.{Worn}
use Rattle.wq_head.specs.Looks.{Looks, IsLow, AreLow, AreSeen, IsBetween, IsFirst, IsLast, place_of_shown}
use Rattle.wq_head.specs.Adds.{IsForPlain, IsFullKind, IsFormPlace, IsWornBy, HasAdded, HasAddedForCell, HasPut}
use Rattle.wq_head.specs.Adds.{HasQueued, HasRemoved}
use Rattle.wait_rule.proofs.KnownLaws.MemberBits.{told_stored}

-- a member's place, in both words
stand_of : (k : Known) (count low high p : ℕ) → (h : StandsIn k count low high p)
    → IsBetween (place_by k) count low high (record { place = p; member = h.member })
stand_of k count low high p h = record { counts = h.counts; stands = h.stands; above = h.above; below = h.below }

stands_in : (k : Known) (count low high : ℕ) (s : ShownMember) → IsBetween (place_by k) count low high s
    → StandsIn k count low high s.place
stands_in k count low high s b = record {
  member = s.member;
  counts = b.counts;
  stands = b.stands;
  above = b.above;
  below = b.below;
}

pub lowest_of : (k : Known) (low high : ℕ) (f : Option ShownMember) → IsFirst (place_by k) MEMBERS low high f
    → IsLowest k MEMBERS low high (place_of_shown f)
lowest_of k low high None is = λ p h. is (record { place = p; member = h.member }) (stand_of k MEMBERS low high p h)
lowest_of k low high (Some s) is = (
  stands_in k MEMBERS low high s is.0,
  λ p h. is.1 (record { place = p; member = h.member }) (stand_of k MEMBERS low high p h),
)

pub highest_of : (k : Known) (low high : ℕ) (f : Option ShownMember) → IsLast (place_by k) MEMBERS low high f
    → IsHighest k MEMBERS low high (place_of_shown f)
highest_of k low high None is = λ p h. is (record { place = p; member = h.member }) (stand_of k MEMBERS low high p h)
highest_of k low high (Some s) is = (
  stands_in k MEMBERS low high s is.0,
  λ p h. is.1 (record { place = p; member = h.member }) (stand_of k MEMBERS low high p h),
)

-- looks change no place that was seen
module _ (old new : Known) (count : ℕ) (same : (m : ℕ) → m < count → place_by new m ≡ place_by old m) where
  there : (low high p : ℕ) → StandsIn old count low high p → StandsIn new count low high p
  there low high p h = record {
    member = h.member;
    counts = h.counts;
    stands = same h.member h.counts ∙ h.stands;
    above = h.above;
    below = h.below;
  }

  before : (low high p : ℕ) → StandsIn new count low high p → StandsIn old count low high p
  before low high p h = record {
    member = h.member;
    counts = h.counts;
    stands = sym (same h.member h.counts) ∙ h.stands;
    above = h.above;
    below = h.below;
  }

  lowest_same : (low high : ℕ) (o : Option ℕ) → IsLowest old count low high o → IsLowest new count low high o
  lowest_same low high None is = λ p h. is p (before low high p h)
  lowest_same low high (Some q) is = (there low high q is.0, λ p h. is.1 p (before low high p h))

  highest_same : (low high : ℕ) (o : Option ℕ) → IsHighest old count low high o → IsHighest new count low high o
  highest_same low high None is = λ p h. is p (before low high p h)
  highest_same low high (Some q) is = (there low high q is.0, λ p h. is.1 p (before low high p h))

module _ (old new : Known) (same : (m : ℕ) → m < MEMBERS → place_by new m ≡ place_by old m) where
  pub front_same : (place : ℕ) → IsFrontPlace old place → IsFrontPlace new place
  front_same place is = (is.0, lowest_same old new MEMBERS same MIDDLE PLACES is.0 is.1, is.2)

  pub tail_same : (place : ℕ) → IsTailPlace old place → IsTailPlace new place
  tail_same place is = (is.0, highest_same old new MEMBERS same MIDDLE PLACES is.0 is.1, is.2)

  pub priority_same : (place : ℕ) → IsPriorityPlace old place → IsPriorityPlace new place
  priority_same place is =
      (is.0, highest_same old new ENTRIES (λ m few. same m (omega (arith, few))) 0 MIDDLE is.0 is.1, is.2)

-- places of such adds are even, and lie from the middle on
pub record IsAfter (p : ℕ) : Type 0 where
  pub even : p % 2 ≡ 0
  pub middle_on : MIDDLE ≤ p
  pub small : p < PLACES

within_after : (q p : ℕ) → q % 2 ≡ 0
    → (if nat_lt q MIDDLE then None else if nat_lt q PLACES then Some q else None) ≡ Some p → IsAfter p
within_after q p even = by (nat_lt q MIDDLE) (nat_lt q PLACES) refl refl
  where
    by : (a b : Bool) → nat_lt q MIDDLE ≡ a → nat_lt q PLACES ≡ b
        → (if a then None else if b then Some q else None) ≡ Some p → IsAfter p
    by true b x y is = absurd (cc)
    by false true x y is =
        let same : q ≡ p = cc in
        let z : MIDDLE ≤ q = grind (arith, nat_tests) in
        let s : q < PLACES = grind (arith, nat_tests) in
        record { even = omega arith; middle_on = omega arith; small = omega arith }
    by false false x y is = absurd (cc)

first_after : (p : ℕ) → Some FIRST_PLACE ≡ Some p → IsAfter p
first_after p is =
    let same : FIRST_PLACE ≡ p = cc in
    record { even = omega arith; middle_on = omega arith; small = omega arith }

pub front_after : (o : Option ℕ) (p : ℕ) → front_for o ≡ Some p → IsAfter p
front_after None p is = first_after p is
front_after (Some l) p is = within_after (even_below l) p (omega arith) is

pub tail_after : (o : Option ℕ) (p : ℕ) → tail_for o ≡ Some p → IsAfter p
tail_after None p is = first_after p is
tail_after (Some l) p is = within_after (even_above l) p (omega arith) is

-- those with priority are even too, and lie below the middle
pub record IsBelow (p : ℕ) : Type 0 where
  pub even : p % 2 ≡ 0
  pub small : p < MIDDLE

within_below : (q p : ℕ) → q % 2 ≡ 0
    → (if nat_lt q 0 then None else if nat_lt q MIDDLE then Some q else None) ≡ Some p → IsBelow p
within_below q p even = by (nat_lt q 0) (nat_lt q MIDDLE) refl
  where
    by : (a b : Bool) → nat_lt q MIDDLE ≡ b → (if a then None else if b then Some q else None) ≡ Some p → IsBelow p
    by true b y is = absurd (cc)
    by false true y is =
        let same : q ≡ p = cc in
        let s : q < MIDDLE = grind (arith, nat_tests) in
        record { even = omega arith; small = omega arith }
    by false false y is = absurd (cc)

first_below : (p : ℕ) → Some FIRST_PRIORITY ≡ Some p → IsBelow p
first_below p is = let same : FIRST_PRIORITY ≡ p = cc in record { even = omega arith; small = omega arith }

pub priority_below : (o : Option ℕ) (p : ℕ) → priority_for o ≡ Some p → IsBelow p
priority_below None p is = first_below p is
priority_below (Some l) p is = within_below (even_above l) p (omega arith) is

no_bit : (k : Kind) → IsFullKind k → k ≡ kind.Bit → ⊥
no_bit k (inl a) is = absurd (cc)
no_bit k (inr (inl b)) is = absurd (cc)
no_bit k (inr (inr w)) is = absurd (cc)

pub full_unpaged : (k : Kind) → IsFullKind k → not (is_page k) ≡ true
full_unpaged k (inl is) = ap (λ (q : Kind). not (is_page q)) is
full_unpaged k (inr (inl is)) = ap (λ (q : Kind). not (is_page q)) is
full_unpaged k (inr (inr is)) = ap (λ (q : Kind). not (is_page q)) is

-- by no entry for a plain condition does a task try a bit, or ask for a page
abbrev pub TriesNo : Entry → Type 0
TriesNo e = ((c : Watch) → is_trying_for (Some e) c ≡ false) × (not (is_page e.kind) ≡ true)

pub plain_tries : (w : Watch) (k : Kind) (exclusive priority : Bool) (place : ℕ) → IsForPlain w k
    → TriesNo (record { watch = w; place = place; exclusive = exclusive; priority = priority; kind = k })
plain_tries w k exclusive priority place is = (
  λ c. subst (λ (v : Watch). is_trying_for (Some (record {
    watch = v;
    place = place;
    exclusive = exclusive;
    priority = priority;
    kind = k;
  })) c ≡ false) (sym is.1) (and_right exclusive false refl),
  full_unpaged k is.3,
)

-- an own entry that the history does not have stored is off
none_shown : (o : Option Entry) (s : Option Entry) → s ≡ None → ((e : Entry) → o ≡ Some e → s ≡ Some e) → o ≡ None
none_shown None s none own = refl
none_shown (Some e) s none own = let is = own e refl in absurd (cc)

pub own_off : (old new : Known) (slot w : ℕ) → slot < SLOTS → (held : IsHolding old)
    → (is : new ≡ added old (item.Made (saw old.book.head (index old.view.number slot) w)))
    → KnewEntry old (index old.view.number slot) w
    → (told_of old).bits.stored (index old.view.number slot) ≡ None
    → (told_of new).hold.book (index old.view.number slot) ≡ off
own_off old new slot w few held is knew none =
    let x = index old.view.number slot in
    let empty : entry_of w ≡ None = none_shown (entry_of w) ((told_of old).bits.stored x) none
    (knew.own slot few refl) in
    ap (λ (u : Told). u.hold.book x) (saw_told old new x w held is knew)
    ∙ (put_same (told_of old).hold.book x (look_at (told_of old).hold.head (entry_of w))
    ∙ (ap (λ (h : Option ℕ). look_at h (entry_of w)) held.told ∙ ap (look_at (Some old.at)) empty))

-- the own entry, which the hold has just seen off
module _ (old mid : Known) (n slot w : ℕ) (e : Entry) (is_n : n ≡ old.view.number) (few : slot < SLOTS)
    (held : IsHolding old)
    (saw_it : mid ≡ added old (item.Made (saw old.book.head (index n slot) w))) (knew : KnewEntry old (index n slot) w)
    (out : (told_of old).bits.stored (index old.view.number slot) ≡ None) (seen : AreSeen old MEMBERS) where
  pub queue_looks : Looks old mid
  queue_looks = saw_looks old mid (index n slot) w held saw_it knew

  queue_same : (m : ℕ) → m < MEMBERS → place_by mid m ≡ place_by old m
  queue_same m low = queue_looks.from.places m (seen m low)

  pub queue_whole : IsWholeBook mid
  queue_whole = whole_of mid (λ m low. queue_looks.from.still m (seen m low))

  pub queue_number : mid.view.number ≡ old.view.number
  queue_number = ap (λ (k : Known). k.view.number) saw_it

  pub queue_off : (told_of mid).hold.book (index mid.view.number slot) ≡ off
  queue_off = ap (λ (k : ℕ). (told_of mid).hold.book (index k slot)) queue_number
      ∙ own_off old mid slot w few held
      (subst (λ (k : ℕ). mid ≡ added old (item.Made (saw old.book.head (index k slot) w))) is_n saw_it)
      (subst (λ (k : ℕ). KnewEntry old (index k slot) w) is_n knew) out

  pub queue_front : (p : ℕ) → IsFrontPlace old p → IsFrontPlace mid p
  queue_front p is = front_same old mid queue_same p is

  pub queue_tail : (p : ℕ) → IsTailPlace old p → IsTailPlace mid p
  queue_tail p is = tail_same old mid queue_same p is

  pub queue_low : AreLow old MEMBERS → AreLow mid MEMBERS
  queue_low low m few = subst IsLow (sym (queue_same m few)) (low m few)

  pub queue_priority : (p : ℕ) → IsPriorityPlace old p → IsPriorityPlace mid p
  queue_priority p is = priority_same old mid queue_same p is

  place_on : (b : Bool) → IsPlaceFor old b e.place → IsPlaceFor mid b e.place
  place_on true is = queue_priority e.place is
  place_on false (inl a) = inl (queue_front e.place a)
  place_on false (inr b) = inr (queue_tail e.place b)

  pub may_queue : head_of e.watch ≡ old.at → IsStanding (index old.view.number slot) e
      → IsPlaceFor old e.priority e.place → (is_page e.kind ≡ true → IsTailPlace old e.place)
      → (uses_flag e.kind ≡ true → asks_for old ≡ nothing_asked) → MayQueue mid slot e
  may_queue at standing place tail asks = record {
    head = at ∙ ap (λ (k : Known). k.at) (sym saw_it);
    standing = subst (λ (k : ℕ). IsStanding (index k slot) e) (sym queue_number) standing;
    is_off = queue_off;
    whole = queue_whole;
    place = place_on e.priority place;
    tail = λ paged. queue_tail e.place (tail paged);
    asks = λ uses. looks_unasked old mid queue_looks (asks uses);
  }

-- where no place is left, a member shows it
worn_at : (IsEnd : Option ℕ → Type 0) (place_for : Option ℕ → Option ℕ) (first : ℕ) → place_for None ≡ Some first
    → (o l : Option ℕ) (w : ℕ) → l ≡ o → IsEnd o → place_for l ≡ None → ((p : ℕ) → l ≡ Some p → w ≡ p)
    → IsEnd (Some w) × (place_for (Some w) ≡ None)
worn_at IsEnd place_for first starts None l w same is none at =
    let never : Some first ≡ None = sym starts ∙ (ap place_for (sym same) ∙ none) in absurd (cc)
worn_at IsEnd place_for first starts (Some q) l w same is none at =
    subst (λ (p : ℕ). IsEnd (Some p) × (place_for (Some p) ≡ None)) (sym (at q same))
    (is, ap place_for (sym same) ∙ none)

-- and where one is left, it is the place of an add
module _ (IsEnd : Option ℕ → Type 0) (place_for : Option ℕ → Option ℕ) (o l r : Option ℕ) (end : IsEnd o) (same : l ≡ o)
    (gives : r ≡ place_for l) (found : Result ℕ Worn) where
  pub spot_found : IfOk found (λ p. r ≡ Some p) → IfOk found (λ p. (e : Option ℕ) × IsEnd e × (place_for e ≡ Some p))
  spot_found left = IfOk-weaker found (λ p. r ≡ Some p) (λ p. (e : Option ℕ) × IsEnd e × (place_for e ≡ Some p))
      (λ p at. (o, end, ap place_for (sym same) ∙ (sym gives ∙ at))) left

  pub spot_worn : (first : ℕ) → place_for None ≡ Some first → (old new : Known) (h : ℕ) → h ≡ old.at → Looks old new
      → IsWholeBook new → AreLow new MEMBERS → IfErr found (λ w. r ≡ None) → IfErr found (λ w. w.head ≡ h)
      → IfErr found (λ w. (p : ℕ) → l ≡ Some p → w.place ≡ p) → IfErr found (λ w. IsWornBy IsEnd place_for old new w)
  spot_worn first starts old new h at looks whole low = by found
    where
      by : (f : Result ℕ Worn) → IfErr f (λ w. r ≡ None) → IfErr f (λ w. w.head ≡ h)
          → IfErr f (λ w. (p : ℕ) → l ≡ Some p → w.place ≡ p) → IfErr f (λ w. IsWornBy IsEnd place_for old new w)
      by (Ok p) none head place = tt
      by (Err w) none head place =
          let worn = worn_at IsEnd place_for first starts o l w.place same end (sym gives ∙ none) place in
          (looks, whole, head ∙ at, worn.0, worn.1, low)

-- and with priority, by the entries alone: no bookmark stands below the place before the middle, and no entry there
module _ (k : Known) (stands : AreStanding k MEMBERS) where
  entry_in : (s : ShownMember) → IsBetween (place_by k) MEMBERS 0 (MIDDLE - 1) s → StandsIn k ENTRIES 0 MIDDLE s.place
  entry_in s b = record {
    member = s.member;
    counts = elim (below_or s.member ENTRIES) [
      | inl few ↦ few
      | inr far ↦
          let mark = (stands s.member b.counts).mark s.place far b.stands in
          absurd (let low = b.below in omega (arith, mark.1, low))
    ];
    stands = b.stands;
    above = b.above;
    below = let low = b.below in omega (arith, low);
  }

  member_in : (p : ℕ) → (h : StandsIn k ENTRIES 0 MIDDLE p)
      → IsBetween (place_by k) MEMBERS 0 (MIDDLE - 1) (record { place = p; member = h.member })
  member_in p h =
      let few : h.member < MEMBERS = let c = h.counts in omega (arith, c) in
      let even = ((stands h.member few).place p h.counts h.stands).0 in record {
        counts = few;
        stands = h.stands;
        above = h.above;
        below = let low = h.below in omega (arith, even, low);
      }

  pub prior_of : (f : Option ShownMember) → IsLast (place_by k) MEMBERS 0 (MIDDLE - 1) f
      → IsHighest k ENTRIES 0 MIDDLE (place_of_shown f)
  prior_of None is = λ p h. is (record { place = p; member = h.member }) (member_in p h)
  prior_of (Some s) is =
      (entry_in s is.0, λ p h. is.1 (record { place = p; member = h.member }) (member_in p h))

  -- where there is a last one, it stands below the middle
  pub priority_low : (o : Option ShownMember) (l : Option ℕ) (p : ℕ) → IsLast (place_by k) MEMBERS 0 (MIDDLE - 1) o
      → l ≡ place_of_shown o → l ≡ Some p → p < MIDDLE
  priority_low None l p is same at = let no : None ≡ Some p = sym same ∙ at in absurd (cc)
  priority_low (Some s) l p is same at =
      let both : Some s.place ≡ Some p = sym same ∙ at in
      let here : s.place ≡ p = cc in
      let low = is.0.below in omega (arith, here, low)

not_paged : (b : Bool) → not b ≡ true → b ≡ false
not_paged false is = refl
not_paged true is = absurd (cc)

-- an entry that the task stores, and one that it takes off; the other ones stay
other_is : (x y : ℕ) → (y == x) ≡ false → y ≡ x → ⊥
other_is x y out same = let here = eq-eqb y x same in absurd (cc)

module _ (seen new : Known) (x : ℕ) (e : Entry) (is : new ≡ stored_with seen (step.Queue x e)) where
  pub queue_told : told_of new ≡ after (step.Queue x e) (told_of seen)
  queue_told = ap told_of is ∙ told_stored seen (step.Queue x e)

  pub queue_memberd : (told_of new).bits.stored x ≡ Some e
  queue_memberd = ap (λ (v : Told). v.bits.stored x) queue_told ∙ put_same (told_of seen).bits.stored x (Some e)

  pub queue_other : (y : ℕ) → (y == x) ≡ false → (told_of new).bits.stored y ≡ (told_of seen).bits.stored y
  queue_other y out = ap (λ (v : Told). v.bits.stored y) queue_told
      ∙ put_at (λ (s : Option Entry). s ≡ (told_of seen).bits.stored y) (told_of seen).bits.stored x (Some e) y
      (λ same. absurd (other_is x y out same)) (λ _. refl)

  queue_debts : TriesNo e → head_of e.watch < FIRST_DONE_HEAD → (f : Excuse) → Debts f seen → Debts f new
  queue_debts shared low = stored_debts seen new (step.Queue x e) (queues_quiet x e shared.1 low) is

  queue_none : TriesNo e → TriesNone (told_of seen) → TriesNone (told_of new)
  queue_none shared none y c = ap (λ (v : Told). is_trying_for (v.bits.stored y) c) queue_told
      ∙ put_at (λ (s : Option Entry). is_trying_for s c ≡ false) (told_of seen).bits.stored x (Some e) y
      (λ _. shared.0 c) (λ _. none y c)

  pub queue_stays : TriesNo e → head_of e.watch < FIRST_DONE_HEAD → Stays (only x) seen new
  queue_stays shared low = record {
    domain = ap (λ (k : Known). k.domain) is;
    number = ap (λ (k : Known). k.view.number) is;
    state = ap (λ (k : Known). k.book.state) is;
    awake = ap (λ (k : Known). k.book.awake) is;
    still = λ y out. inl (queue_other y out);
    stands = λ slot few out d at own. queue_other (index seen.view.number slot) out ∙ at;
    keeps = λ c. ap (λ (v : Told). v.bits.keeps c) queue_told;
    tries_none = queue_none shared;
    tries = λ none c out. ap (λ (v : Told). v.bits.pending c) queue_told ∙ out;
    debts = queue_debts shared low;
  }

  -- what it owes then, by the debts
  queue_owing : TriesNo e → (f : Excuse) → (Debts f seen → Debts (with_entry x f) new) → OwesBut f seen
      → OwesBut (with_entry x f) new
  unfolding with_entry
  queue_owing shared f debts o = record {
    unmarked = ap (λ (v : Told). v.mark) queue_told ∙ o.unmarked;
    debts = debts o.debts;
    unqueued = λ y. subst (λ (v : Told). IsOutBut ((y == x) || f.entries y) (v.bits.stored y)) (sym queue_told)
        (put_at (λ (s : Option Entry). IsOutBut ((y == x) || f.entries y) s) (told_of seen).bits.stored x
        (Some e) y (λ here. subst (λ (b : Bool). IsOutBut (b || f.entries y) (Some e)) (sym (eq-eqb y x here)) tt)
        (λ _. (owes_also x f seen o).unqueued y));
    holds = λ c. ap (λ (v : Told). not (f.bits c) && v.bits.keeps c) queue_told ∙ o.holds c;
    tries = λ c. ap (λ (v : Told). v.bits.pending c) queue_told ∙ o.tries c;
    tries_none = queue_none shared o.tries_none;
  }

  low_owing : TriesNo e → head_of e.watch < FIRST_DONE_HEAD → (f : Excuse) → OwesBut f seen → OwesBut (with_entry x f) new
  unfolding with_entry
  low_owing shared low f = queue_owing shared f
      (λ d. entries_debts f (with_entry x f) new refl refl refl refl (queue_debts shared low f d))

  cell_owing : TriesNo e → (f : Excuse) → OwesBut f seen → OwesBut (with_left_entry (with_entry x f)) new
  unfolding with_entry with_left_entry
  cell_owing shared f o = queue_owing shared (with_left_entry f)
      (λ d. entries_debts (with_left_entry f) (with_entry x (with_left_entry f)) new refl refl refl refl
      (queued_debts seen new x e (not_paged (is_page e.kind) shared.1) is f o.debts)) (owes_left f seen o)

  pub queue_carried : (old : Known) (to : Excuse → Excuse) → Carries only_looks old seen
      → ((f : Excuse) → OwesBut f seen → OwesBut (to f) new)
      → Carries (record (queue_change x) { to = to }) old new
  queue_carried old to l owing = record {
    domain = ap (λ (k : Known). k.domain) is ∙ l.domain;
    number = ap (λ (k : Known). k.view.number) is ∙ l.number;
    awake = ap (λ (k : Known). k.book.awake) is ∙ l.awake;
    state = ap (λ (k : Known). k.book.state) is ∙ l.state;
    head = ap (λ (k : Known). k.book.head) is ∙ l.head;
    ticket = ap (λ (k : Known). k.book.ticket) is ∙ l.ticket;
    hold = ap (λ (v : Told). v.hold.head) queue_told ∙ l.hold;
    at = ap (λ (k : Known). k.at) is ∙ l.at;
    mark = ap (λ (v : Told). v.mark) queue_told ∙ l.mark;
    fewer = λ w σ p none. ap (λ (v : Told). v.duty.owes w σ) queue_told ∙ l.fewer w σ p none;
    stored = λ y none _. absurd (cc);
    out = λ y away none. queue_other y away ∙ l.out y refl none;
    stands = λ slot few away d at own. queue_other (index old.view.number slot) away ∙ l.stands slot few refl d at own;
    keeps = λ d _. ap (λ (v : Told). v.bits.keeps d) queue_told ∙ l.keeps d refl;
    owes = λ f o. owing f (l.owes f o);
  }

  pub low_carried : (old : Known) → TriesNo e → head_of e.watch < FIRST_DONE_HEAD → Carries only_looks old seen
      → Carries (queue_change x) old new
  low_carried old shared low l = queue_carried old (with_entry x) l (low_owing shared low)

  pub cell_carried : (old : Known) → TriesNo e → Carries only_looks old seen → Carries (queue_cell_change x) old new
  cell_carried old shared l = queue_carried old (λ f. with_left_entry (with_entry x f)) l (cell_owing shared)

module _ (old new : Known) (who slot : ℕ) (is : new ≡ stored_with old (step.Unqueue (index who slot))) where
  remove_told : told_of new ≡ after (step.Unqueue (index who slot)) (told_of old)
  remove_told = ap told_of is ∙ told_stored old (step.Unqueue (index who slot))

  remove_out : (told_of new).bits.stored (index who slot) ≡ None
  remove_out = ap (λ (v : Told). v.bits.stored (index who slot)) remove_told
      ∙ put_same (told_of old).bits.stored (index who slot) None

  remove_other : (y : ℕ) → (y == index who slot) ≡ false → (told_of new).bits.stored y ≡ (told_of old).bits.stored y
  remove_other y away = ap (λ (v : Told). v.bits.stored y) remove_told
      ∙ put_at (λ (s : Option Entry). s ≡ (told_of old).bits.stored y) (told_of old).bits.stored (index who slot) None y
      (λ same. absurd (other_is (index who slot) y away same)) (λ _. refl)

  remove_debts : (f : Excuse) → Debts f old → Debts f new
  remove_debts = stored_debts old new (step.Unqueue (index who slot)) refl is

  remove_none : TriesNone (told_of old) → TriesNone (told_of new)
  remove_none none y c = ap (λ (v : Told). is_trying_for (v.bits.stored y) c) remove_told
      ∙ put_at (λ (s : Option Entry). is_trying_for s c ≡ false) (told_of old).bits.stored (index who slot) None y
      (λ _. refl) (λ _. none y c)

  remove_still : (f : Excuse) → OwesBut (with_entry (index who slot) f) old → OwesBut (with_entry (index who slot) f) new
  unfolding with_entry
  remove_still f o = record {
    unmarked = ap (λ (v : Told). v.mark) remove_told ∙ o.unmarked;
    debts = remove_debts (with_entry (index who slot) f) o.debts;
    unqueued = λ y. subst (λ (v : Told). IsOutBut ((y == index who slot) || f.entries y) (v.bits.stored y))
        (sym remove_told) (put_at (IsOutBut ((y == index who slot) || f.entries y)) (told_of old).bits.stored
        (index who slot) None y
        (λ here. subst (λ (b : Bool). IsOutBut (b || f.entries y) None) (sym (eq-eqb y (index who slot) here)) tt)
        (λ _. o.unqueued y));
    holds = λ c. ap (λ (v : Told). not (f.bits c) && v.bits.keeps c) remove_told ∙ o.holds c;
    tries = λ c. ap (λ (v : Told). v.bits.pending c) remove_told ∙ o.tries c;
    tries_none = remove_none o.tries_none;
  }

  remove_owing : (f : Excuse) → OwesBut (with_entry (index who slot) f) old → OwesBut f new
  remove_owing f o = owes_out (index who slot) f new remove_out (remove_still f o)

  remove_carried : Carries (take_off_change (index who slot)) old new
  remove_carried = record {
    domain = ap (λ (k : Known). k.domain) is;
    number = ap (λ (k : Known). k.view.number) is;
    awake = ap (λ (k : Known). k.book.awake) is;
    state = ap (λ (k : Known). k.book.state) is;
    head = ap (λ (k : Known). k.book.head) is;
    ticket = ap (λ (k : Known). k.book.ticket) is;
    hold = ap (λ (v : Told). v.hold.head) remove_told;
    at = ap (λ (k : Known). k.at) is;
    mark = ap (λ (v : Told). v.mark) remove_told;
    fewer = λ w σ _ none. ap (λ (v : Told). v.duty.owes w σ) remove_told ∙ none;
    stored = λ y _ away. remove_other y away;
    out = λ y away none. remove_other y away ∙ none;
    stands = λ n few away d at own. remove_other (index old.view.number n) away ∙ at;
    keeps = λ d _. ap (λ (v : Told). v.bits.keeps d) remove_told;
    owes = remove_owing;
  }

  pub removed : HasRemoved old new who slot
  removed = record {
    is = is;
    out = remove_out;
    stays = record {
      domain = ap (λ (k : Known). k.domain) is;
      number = ap (λ (k : Known). k.view.number) is;
      state = ap (λ (k : Known). k.book.state) is;
      awake = ap (λ (k : Known). k.book.awake) is;
      still = λ y away. inl (remove_other y away);
      stands = λ n few away d at own. remove_other (index old.view.number n) away ∙ at;
      keeps = λ c. ap (λ (v : Told). v.bits.keeps c) remove_told;
      tries_none = remove_none;
      tries = λ none c out. ap (λ (v : Told). v.bits.pending c) remove_told ∙ out;
      debts = remove_debts;
    };
    carries = remove_carried;
  }

pub form_queued : (f : Form) (mid new : Known) (slot : ℕ) (e : Entry) (q : HasQueued mid new slot e)
    → IsFormPlace f mid e.place → IsFormPlace f q.seen e.place
form_queued forms.Front mid new slot e q is = q.front is
form_queued forms.Tail mid new slot e q is = q.tail is
form_queued forms.Priority mid new slot e q is = q.priority is

-- the whole add
module _ (form : Form) (old new : Known) (slot : ℕ) (made : ℕ → Entry) (at : (p : ℕ) → (made p).place ≡ p)
    (h : HasPut form old new slot made) where
  abbrev x : ℕ
  x = index old.view.number slot

  abbrev e : Entry
  e = made h.place

  pub put_looks : Looks old h.put.seen
  put_looks = looks_on old h.mid h.put.seen h.looks h.put.looks

  pub put_is : new ≡ stored_with h.put.seen (step.Queue x e)
  put_is = h.put.is ∙ (λ i. stored_with h.put.seen (step.Queue (index ((h.looks.is i).view.number) slot) (h.by i)))

  pub put_off : (told_of h.put.seen).hold.book x ≡ off
  put_off = subst (λ (n : ℕ). (told_of h.put.seen).hold.book (index n slot) ≡ off)
      (ap (λ (j : Known). j.view.number) h.looks.is) h.put.is_off

  pub put_sort : IsFormPlace form h.put.seen h.place
  put_sort = subst (IsFormPlace form h.put.seen) (ap (λ (f : Entry). f.place) h.by ∙ at h.place) h.sort

  pub put_counts : LooksAtMost (MEMBER_WORDS + length (shown_queue h.put.seen) + 1) old new
  put_counts = counted_add old h.mid h.put.seen new x e h.put.looks h.seen h.counts h.put.one put_is

  pub added_at : TriesNo e → head_of e.watch < FIRST_DONE_HEAD → HasAdded (IsFormPlace form) old new slot made
  added_at plain low_head = record {
    place = h.place;
    seen = h.put.seen;
    looks = put_looks;
    whole = h.put.whole;
    low = h.put.low h.low;
    is_off = put_off;
    sort = put_sort;
    is = put_is;
    queued = queue_memberd h.put.seen new x e put_is;
    stays = stays_on (only x) old h.put.seen new (stays_but (only x) old h.put.seen put_looks.stays)
        (queue_stays h.put.seen new x e put_is plain low_head);
    counts = put_counts;
    carries = low_carried h.put.seen new x e put_is old plain low_head (looks_carried old h.put.seen put_looks);
  }

-- the whole add of an entry for a completion
module _ (old new : Known) (slot : ℕ) (made : ℕ → Entry) (at : (p : ℕ) → (made p).place ≡ p)
    (h : HasPut forms.Tail old new slot made) where
  pub added_for_cell : TriesNo (made h.place) → HasAddedForCell old new slot made
  added_for_cell plain = let is = put_is forms.Tail old new slot made at h in record {
    place = h.place;
    seen = h.put.seen;
    looks = put_looks forms.Tail old new slot made at h;
    whole = h.put.whole;
    low = h.put.low h.low;
    is_off = put_off forms.Tail old new slot made at h;
    sort = put_sort forms.Tail old new slot made at h;
    is = is;
    queued = queue_memberd h.put.seen new (index old.view.number slot) (made h.place) is;
    counts = put_counts forms.Tail old new slot made at h;
    carries = cell_carried h.put.seen new (index old.view.number slot) (made h.place) is old plain
        (looks_carried old h.put.seen (put_looks forms.Tail old new slot made at h));
  }

queued_holds : (seen new : Known) (x : ℕ) (e : Entry) → IsHolding seen → new ≡ stored_with seen (step.Queue x e)
    → IsHolding new
queued_holds seen new x e held now = subst IsHolding (sym now) (record {
  locked = held.locked;
  agreed = refl;
  told = ap (λ (u : Told). u.hold.head) (told_stored seen (step.Queue x e)) ∙ held.told;
})

pub added_holds : (old mid new : Known) (slot : ℕ) (e : Entry) → Looks old mid → HasQueued mid new slot e
    → IsHolding old
    → IsHolding new
added_holds old mid new slot e first q held = queued_holds q.seen new _ e
    (holding_on old q.seen (looks_on old mid q.seen first q.looks) held) q.is
