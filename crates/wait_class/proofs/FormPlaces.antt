-- Where a hold's whole book shows that a place is left for an add of a form, and where it shows that none is.
use Rattle.std.proofs.Common.{◌∙◌, ap, sym, refl, inl, arith}
use Rattle.std.proofs.lemmas.Bool.Decides.{nat_tests}
use Rattle.std.specs.Prelude.{ℕ, ◌≡◌, ◌<◌, ◌≤◌, ◌&&◌, ◌||◌, not, Bool, true, false, Option, Some}
use Rattle.std.specs.Prelude.{None, List, [], ◌∷◌, MatchBool}
use Rattle.wait_model.specs.{declared.queues.Form.Form, declared.queues.Member.Member, Places.tail_for}
use Rattle.wait_model.specs.Places.{priority_for}
use Rattle.wait_model.specs.declared.layout.TheConstants.{ENTRIES, MEMBERS, PLACES, MIDDLE, FIRST_PLACE, FIRST_PRIORITY}
use Rattle.wait_model.specs.Queues.{even_above, entries_of, is_entry, is_within, last_within, place_behind, place_for}
use Rattle.wait_model.specs.Queues.{IsIn}
use Rattle.wait_model.specs.declared.queues.Form.TheVariants as forms
use Rattle.wait_model.proofs.QueueLaws.QueueEnds.{IsLastWithin, entry_in, in_entries, last_of, order_entries}
use Rattle.wait_rule.specs.{Known.Known, Shown.shown_queue, Transitions.is_worn}
use Rattle.wait_rule.specs.Queues.{IsHighest, IsPriorityPlace, IsTailPlace, IsWholeBook, place_by}
use Rattle.wq_head.specs.{declared.adds.Worn.Worn, Adds.IsFormPlace, Adds.IsFormWorn}
use Rattle.wq_head.specs.Looks.{AreLow, HasMember, IsEmpty, Looks}
use Rattle.wq_head.proofs.AddedEntries.{priority_below, tail_after}
use Rattle.wq_head.proofs.ShownPlaces.{tail_place_is, within_is}
use Rattle.wq_head.proofs.ShownQueue.{queue_in_order, queue_has, queue_of}
use Rattle.wait_class.specs.Queueing.{TellsFirst, is_none}
use Rattle.wait_class.proofs.WornPlaces.{front_is, front_left, front_worn, left_within, queue_same, whole_seen, worn_within}

-- the last member of those that stand in a range is the one at the highest place
ends_at : (k : Known) (count low high first : ℕ) → count ≤ MEMBERS → (queue : List Member)
    → ((m : Member) → IsIn m queue → (m.at < count) × (place_by k m.at ≡ Some m.place))
    → ((m p : ℕ) → m < count → place_by k m ≡ Some p → IsIn (record { at = m; place = p }) queue) → (l : ℕ)
    → IsHighest k count low high (Some l) → (o : Option Member) → IsLastWithin low high queue o
    → place_behind first o ≡ even_above l
ends_at k count low high first few queue has of l s None h =
    absurd (h (record { at = s.0.member; place = l }) (of s.0.member l s.0.counts s.0.stands) s.0.above s.0.below)
ends_at k count low high first few queue has of l s (Some m) h =
    let q = has m h.0 in
    let c = q.0 in
    let b = s.0.counts in
    let one = s.1 m.place (record {
      member = m.at;
      counts = q.0;
      stands = q.1;
      above = h.1;
      below = h.2;
    }) in
    let at : Member = record { at = s.0.member; place = l } in
    let two = h.3 at (of s.0.member l s.0.counts s.0.stands) s.0.above s.0.below in
    let same : m.place ≡ l = omega (arith, one, two, b, c, few) in
    ap even_above same

-- at the tail
module _ (k : Known) (low : AreLow k MEMBERS) where
  small : (m p : ℕ) → m < MEMBERS → place_by k m ≡ Some p → p < PLACES
  small m p few at = low m few p at

  tail_left : (p : ℕ) → IsTailPlace k p → is_worn forms.Tail (shown_queue k) ≡ false
  tail_left p is =
      let a = tail_after is.0 p is.2 in
      ap (λ (q : ℕ). not (is_within MIDDLE PLACES q)) (tail_place_is k small p is)
      ∙ left_within MIDDLE PLACES p a.middle_on a.small

  last_stands : (l : ℕ) → IsHighest k MEMBERS MIDDLE PLACES (Some l) → (o : Option Member)
      → IsLastWithin MIDDLE PLACES (shown_queue k) o → place_behind FIRST_PLACE o ≡ even_above l
  last_stands = ends_at k MEMBERS MIDDLE PLACES FIRST_PLACE (omega arith) (shown_queue k) (λ m i. queue_has k m i)
      (λ m p few at. queue_of k (record { at = m; place = p }) few at)

  tail_worn : (l : ℕ) → IsHighest k MEMBERS MIDDLE PLACES (Some l) → tail_for (Some l) ≡ None
      → is_worn forms.Tail (shown_queue k) ≡ true
  tail_worn l s none = ap (λ (q : ℕ). not (is_within MIDDLE PLACES q))
      (last_stands l s (last_within MIDDLE PLACES (shown_queue k))
      (last_of MIDDLE PLACES (shown_queue k) (queue_in_order k)))
      ∙ worn_within MIDDLE PLACES (even_above l) none

-- and with priority, by the entries of the queue
module _ (k : Known) where
  entry_is : (m : ℕ) → m < ENTRIES → (p : ℕ) → is_entry (record { at = m; place = p }) ≡ true
  entry_is m few p = grind (arith, nat_tests)

  of_entry : (m : Member) → IsIn m (entries_of (shown_queue k)) → (m.at < ENTRIES) × (place_by k m.at ≡ Some m.place)
  of_entry m i =
      let e = entry_in m (shown_queue k) i in
      let is = e.1 in
      let few : m.at < ENTRIES = grind (arith, nat_tests) in
      (few, (queue_has k m e.0).1)

  to_entry : (m p : ℕ) → m < ENTRIES → place_by k m ≡ Some p
      → IsIn (record { at = m; place = p }) (entries_of (shown_queue k))
  to_entry m p few at = in_entries (record { at = m; place = p }) (shown_queue k) (entry_is m few p)
      (queue_of k (record { at = m; place = p }) (omega (arith, few)) at)

  last_entry : IsLastWithin 0 MIDDLE (entries_of (shown_queue k)) (last_within 0 MIDDLE (entries_of (shown_queue k)))
  last_entry = last_of 0 MIDDLE (entries_of (shown_queue k)) (order_entries (shown_queue k) (queue_in_order k))

  prior_stands : (l : ℕ) → IsHighest k ENTRIES 0 MIDDLE (Some l) → (o : Option Member)
      → IsLastWithin 0 MIDDLE (entries_of (shown_queue k)) o → place_behind FIRST_PRIORITY o ≡ even_above l
  prior_stands = ends_at k ENTRIES 0 MIDDLE FIRST_PRIORITY (omega arith) (entries_of (shown_queue k)) of_entry to_entry

  prior_none : IsHighest k ENTRIES 0 MIDDLE None → (o : Option Member)
      → IsLastWithin 0 MIDDLE (entries_of (shown_queue k)) o → place_behind FIRST_PRIORITY o ≡ FIRST_PRIORITY
  prior_none none None h = refl
  prior_none none (Some m) h =
      let q = of_entry m h.0 in
      absurd (none m.place (record { member = m.at; counts = q.0; stands = q.1; above = h.1; below = h.2 }))

  prior_by : (o : Option ℕ) → IsHighest k ENTRIES 0 MIDDLE o → (p : ℕ) → priority_for o ≡ Some p
      → place_for forms.Priority (shown_queue k) ≡ p
  prior_by None none p is =
      let first : FIRST_PRIORITY ≡ p = cc in
      prior_none none (last_within 0 MIDDLE (entries_of (shown_queue k))) last_entry ∙ first
  prior_by (Some l) s p is = prior_stands l s (last_within 0 MIDDLE (entries_of (shown_queue k))) last_entry
      ∙ within_is 0 MIDDLE (even_above l) p is

  prior_left : (p : ℕ) → IsPriorityPlace k p → is_worn forms.Priority (shown_queue k) ≡ false
  prior_left p is =
      let a = priority_below is.0 p is.2 in
      ap (λ (q : ℕ). not (is_within 0 MIDDLE q)) (prior_by is.0 is.1 p is.2)
      ∙ left_within 0 MIDDLE p (omega arith) a.small

  prior_worn : (l : ℕ) → IsHighest k ENTRIES 0 MIDDLE (Some l) → priority_for (Some l) ≡ None
      → is_worn forms.Priority (shown_queue k) ≡ true
  prior_worn l s none = ap (λ (q : ℕ). not (is_within 0 MIDDLE q))
      (prior_stands l s (last_within 0 MIDDLE (entries_of (shown_queue k))) last_entry)
      ∙ worn_within 0 MIDDLE (even_above l) none

-- by the form
pub form_is : (k : Known) → AreLow k MEMBERS → (f : Form) (p : ℕ) → IsFormPlace f k p
    → place_for f (shown_queue k) ≡ p
form_is k low forms.Front p is = front_is k low p is
form_is k low forms.Tail p is = tail_place_is k (λ m q few at. low m few q at) p is
form_is k low forms.Priority p is = prior_by k is.0 is.1 p is.2

pub form_left : (k : Known) → AreLow k MEMBERS → (f : Form) (p : ℕ) → IsFormPlace f k p
    → is_worn f (shown_queue k) ≡ false
form_left k low forms.Front p is = front_left k low p is
form_left k low forms.Tail p is = tail_left k low p is
form_left k low forms.Priority p is = prior_left k p is

-- what a worn add says by any form
pub record WornOf (f : Form) (old new : Known) (w : Worn) : Type 0 where
  pub looks : Looks old new
  pub whole : IsWholeBook new
  pub head : w.head ≡ old.at
  pub worn : is_worn f (shown_queue new) ≡ true

pub form_worn : (f : Form) (old new : Known) (w : Worn) → IsFormWorn f old new w → WornOf f old new w
form_worn forms.Front old new w (looks, whole, head, at, none, low) = record {
  looks = looks;
  whole = whole;
  head = head;
  worn = front_worn new low w.place at none;
}
form_worn forms.Tail old new w (looks, whole, head, at, none, low) = record {
  looks = looks;
  whole = whole;
  head = head;
  worn = tail_worn new low w.place at none;
}
form_worn forms.Priority old new w (looks, whole, head, at, none, low) = record {
  looks = looks;
  whole = whole;
  head = head;
  worn = prior_worn new w.place at none;
}

-- whether the queue is empty
pub shown_none : (k : Known) → IsEmpty k → is_none (shown_queue k) ≡ true
shown_none k e = by (shown_queue k) (λ m i. let h = queue_has k m i in e.1 m.at m.place h.0 h.1)
  where
    by : (q : List Member) → ((m : Member) → IsIn m q → ⊥) → is_none q ≡ true
    by [] none = refl
    by (m ∷ ms) none = absurd (none m (inl refl))

pub shown_some : (k : Known) → HasMember k → is_none (shown_queue k) ≡ false
shown_some k h = by (shown_queue k) (record { at = h.0; place = h.1 })
    (queue_of k (record { at = h.0; place = h.1 }) h.2 h.3)
  where
    by : (q : List Member) (m : Member) → IsIn m q → is_none q ≡ false
    by [] m i = absurd i
    by (x ∷ xs) m i = refl

-- an answer that a later look of the same hold bears out
swapped : (n a : Bool) → (a && n) ≡ ((n || false) && a)
swapped true true = refl
swapped true false = refl
swapped false true = refl
swapped false false = refl

pub first_later : (asked first : Bool) (mid seen : Known) → TellsFirst asked mid first → Looks mid seen
    → first ≡ ((is_none (shown_queue seen) || false) && asked)
first_later asked first mid seen t l = t.tells ∙ (by asked t.whole ∙ swapped (is_none (shown_queue seen)) asked)
  where
    by : (b : Bool) → (b ≡ true → IsWholeBook mid)
        → (b && is_none (shown_queue mid)) ≡ (b && is_none (shown_queue seen))
    by true whole = ap is_none (sym (queue_same seen mid
        (λ m few. l.from.places m (whole_seen mid (whole refl) m few))))
    by false whole = refl

-- what a look at the members tells
pub tells_asked : (k : Known) (asked : Bool) → asked ≡ true → (found : Bool) → IsWholeBook k
    → MatchBool found (HasMember k) (IsEmpty k) → TellsFirst asked k (not found)
tells_asked k false asks found whole tells = absurd (cc)
tells_asked k true asks true whole has = record { tells = sym (shown_some k has); whole = λ _. whole }
tells_asked k true asks false whole none = record { tells = sym (shown_none k none); whole = λ _. whole }
