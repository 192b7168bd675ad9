-- No two entries of a head stand at one place: an add takes a place at which none stands. A bookmark may stand there.
use Rattle.std.proofs.lemmas.Bool.Decides.{nat_tests}
use Rattle.std.proofs.Common.{refl, sym, ◌∙◌, ap, subst, arith, inl, inr}
use Rattle.std.specs.Prelude.{ℕ, ◌≡◌, ◌≢◌, ◌<◌, ◌≤◌, Option, Some, None, true, List, nat_lt}
use Rattle.wait_model.specs.{declared.calls.Event.Event, declared.points.Given.Given, declared.queues.Member.Member}
use Rattle.wait_model.specs.{declared.queues.Mark.Mark, declared.queues.Form.Form, declared.watches.Entry.Entry}
use Rattle.wait_model.specs.{Functions.put, Watches.head_of, Words.head_word, Tables.next, Tables.value_of}
use Rattle.wait_model.specs.declared.layout.TheConstants.{TASKS, ENTRIES, PLACES, MIDDLE, FIRST_PRIORITY, FIRST_PLACE}
use Rattle.wait_model.specs.declared.layout.TheConstants.{INDEXES, EVENTS}
use Rattle.wait_model.specs.Queues.{place_before, place_behind, place_for, rank, rank_at, member_from, last_within}
use Rattle.wait_model.specs.Queues.{is_entry, entries_of, IsIn, IsInOrder}
use Rattle.wait_model.specs.Reached.{IsWithinAdds, IsLinked, Joins}
use Rattle.wait_model.specs.Runs.{State, own, entry_for, after_event}
use Rattle.wait_model.specs.declared.calls.Event.TheVariants as event
use Rattle.wait_model.specs.declared.queues.Form.TheVariants as forms
use Rattle.wait_model.specs.declared.steps.Step.TheVariants as step
use Rattle.wait_model.proofs.{Functions.put_case, Functions.put_at, HistoryLaws.HoldLooks.looks_same}
use Rattle.wait_model.proofs.{HistoryLaws.UnlockedLooks.peeks_same, QueueLaws.LinkedQueues.member_near}
use Rattle.wait_model.proofs.{QueueLaws.LinkedQueues.member_small, QueueLaws.MemberStands.some_stands}
use Rattle.wait_model.proofs.{QueueLaws.QueueOrder.IsFirstFrom, QueueLaws.QueueOrder.first_is}
use Rattle.wait_model.proofs.WordLaws.CondWords.{set_rest}
use Rattle.wait_model.proofs.QueueLaws.QueueEnds.{IsLastWithin, last_of, entry_in, in_entries, order_entries}
use Rattle.wait_model.proofs.QueueLaws.QueuePlaces.{near_low, near_high, split}

-- no two entries of a head stand at one place
abbrev pub AreApart : (ℕ → Option Entry) → Type 0
AreApart entry = (x y : ℕ) (e d : Entry) → entry x ≡ Some e → entry y ≡ Some d → head_of e.watch ≡ head_of d.watch
    → e.place ≡ d.place → x ≡ y

-- at the place of an add no entry stands
module _ (q : List Member) (n : ℕ) (few : n < EVENTS) (order : IsInOrder q)
    (near : (m : Member) → IsIn m q → IsWithinAdds n m.place) (small : (m : Member) → IsIn m q → m.at < INDEXES) where
  free_front : (r : Option Member) → IsFirstFrom (λ _. true) (rank_at MIDDLE) q r → (m : Member) → IsIn m q
      → m.place ≢ place_before r
  free_front None f m i s = let c : rank m < rank_at MIDDLE = f m i refl in absurd (omega arith)
  free_front (Some b) f m i s =
      let t : b.at < INDEXES = small b f.0 in
      let u : m.at < INDEXES = small m i in
      let l : rank_at MIDDLE ≤ rank b = f.2 in
      let v : MIDDLE ≤ b.place = omega arith in
      let c = near_high n b.place few (near b f.0) v in
      elim (split m.place) [
        | inl k ↦ absurd (omega (arith, c.0, c.1))
        | inr k ↦ let d : rank b ≤ rank m = f.3 m i refl (omega arith) in absurd (omega arith)
      ]

  free_tail : (r : Option Member) → IsLastWithin MIDDLE PLACES q r → (m : Member) → IsIn m q
      → m.place ≢ place_behind FIRST_PLACE r
  free_tail None f m i s = elim (split m.place) [
    | inl k ↦ absurd (omega arith)
    | inr k ↦ let c = near_high n m.place few (near m i) k in absurd (f m i k (omega (arith, c.1)))
  ]
  free_tail (Some b) f m i s =
      let t : b.at < INDEXES = small b f.0 in
      let u : m.at < INDEXES = small m i in
      let v : MIDDLE ≤ b.place = f.1 in
      elim (split m.place) [
        | inl k ↦ absurd (omega arith)
        | inr k ↦ let c = near_high n m.place few (near m i) k in
            let d : rank m ≤ rank b = f.3 m i k (omega (arith, c.1)) in absurd (omega arith)
      ]

  free_priority : (r : Option Member) → IsLastWithin 0 MIDDLE (entries_of q) r → (m : Member)
      → IsIn m (entries_of q) → m.at < INDEXES → ((b : Member) → r ≡ Some b → (b.at < INDEXES) × IsWithinAdds n b.place)
      → m.place ≢ place_behind FIRST_PRIORITY r
  free_priority None f m i u w s = elim (split m.place) [
    | inl k ↦ absurd (f m i (omega arith) k)
    | inr k ↦ absurd (omega arith)
  ]
  free_priority (Some b) f m i u w s =
      let t : b.at < INDEXES = (w b refl).0 in
      let v : b.place < MIDDLE = f.2 in
      let c = near_low n b.place few (w b refl).1 v in
      elim (split m.place) [
        | inl k ↦ let d : rank m ≤ rank b = f.3 m i (omega arith) k in absurd (omega arith)
        | inr k ↦ absurd (omega (arith, c.0, c.1))
      ]

  pub free_place : (form : Form) (m : Member) → IsIn m q → is_entry m ≡ true → m.place ≢ place_for form q
  free_place forms.Front m i k = free_front (member_from (rank_at MIDDLE) q)
      (first_is (λ _. true) (rank_at MIDDLE) q order) m i
  free_place forms.Tail m i k = free_tail (last_within MIDDLE PLACES q) (last_of MIDDLE PLACES q order) m i
  free_place forms.Priority m i k = free_priority (last_within 0 MIDDLE (entries_of q))
      (last_of 0 MIDDLE (entries_of q) (order_entries q order)) m (in_entries m q k i) (small m i)
      (last_near (last_within 0 MIDDLE (entries_of q)) (last_of 0 MIDDLE (entries_of q) (order_entries q order)))
    where
      last_near : (r : Option Member) → IsLastWithin 0 MIDDLE (entries_of q) r → (b : Member) → r ≡ Some b
          → (b.at < INDEXES) × IsWithinAdds n b.place
      last_near None f b s = absurd (cc)
      last_near (Some d) f b s =
          let z : d ≡ b = cc in
          let j : IsIn b q = subst (λ (y : Member). IsIn y q) z (entry_in d q f.0).0 in
          (small b j, near b j)

-- an entry of a task is a member of its head's queue
module _ (entry : ℕ → Option Entry) (mark : ℕ → Option Mark) (queue : ℕ → List Member) (n : ℕ)
    (l : IsLinked entry mark queue n) (y : ℕ) (d : Entry) (stands : entry y ≡ Some d) where
  pub entry_number : y < ENTRIES
  entry_number =
      let q = l.entries y d stands in
      let number : q.task < TASKS = q.number in
      let is : y ≡ own q.task = q.is_own in
      omega arith

  pub entry_inside : IsIn (record { at = y; place = d.place }) (queue (head_of d.watch))
  entry_inside = (l.ordered.inside y (record { head = head_of d.watch; place = d.place })
      (some_stands entry mark y d entry_number stands)).inside

module _ (entry : ℕ → Option Entry) (mark : ℕ → Option Mark) (queue : ℕ → List Member) (n : ℕ)
    (l : IsLinked entry mark queue n) (apart : AreApart entry) where
  -- an add
  module _ (few : n < EVENTS) (x : ℕ) (it : Entry) (form : Form)
      (at : it.place ≡ place_for form (queue (head_of it.watch))) where
    other : (y : ℕ) (d : Entry) → entry y ≡ Some d → head_of it.watch ≡ head_of d.watch → it.place ≢ d.place
    other y d stands head same =
        let small : y < ENTRIES = entry_number entry mark queue n l y d stands in
        let b : nat_lt y ENTRIES ≡ true = grind (arith, nat_tests) in
        free_place (queue (head_of it.watch)) n few (l.ordered.order (head_of it.watch))
        (λ m i. member_near entry mark queue n l m (head_of it.watch) i)
        (λ m i. member_small entry mark queue n l m (head_of it.watch) i) form
        (record { at = y; place = d.place })
        (subst (λ (h : ℕ). IsIn (record { at = y; place = d.place }) (queue h)) (sym head)
        (entry_inside entry mark queue n l y d stands)) b (sym same ∙ at)

    is_it : (d : Entry) → Some it ≡ Some d → it ≡ d
    is_it d s = cc

    pub added_apart : AreApart (put entry x (Some it))
    added_apart a b e d s t head same = elim (put_case entry x (Some it) a) [
      | inl p ↦ let u : it ≡ e = is_it e (sym p.1 ∙ s) in elim (put_case entry x (Some it) b) [
        | inl q ↦ p.0 ∙ sym q.0
        | inr q ↦ absurd (other b d (sym q.1 ∙ t) (ap (λ (i : Entry). head_of i.watch) u ∙ head)
            (ap (λ (i : Entry). i.place) u ∙ same))
      ]
      | inr p ↦ elim (put_case entry x (Some it) b) [
        | inl q ↦ let u : it ≡ d = is_it d (sym q.1 ∙ t) in
            absurd (other a e (sym p.1 ∙ s) (ap (λ (i : Entry). head_of i.watch) u ∙ sym head)
            (ap (λ (i : Entry). i.place) u ∙ sym same))
        | inr q ↦ apart a b e d (sym p.1 ∙ s) (sym q.1 ∙ t) head same
      ]
    ]

  -- an entry that is off stands nowhere
  pub removed_apart : (x : ℕ) → AreApart (put entry x None)
  removed_apart x a b e d s t = apart a b e d (still a e s) (still b d t)
    where
      still : (y : ℕ) (g : Entry) → put entry x None y ≡ Some g → entry y ≡ Some g
      still y g = put_at (λ o. o ≡ Some g → entry y ≡ Some g) entry x None y (λ _ z. absurd (cc)) (λ _ z. z)

-- each event
pub event_apart : (s : State) (me : ℕ) (g : Given) (e : Event) (n : ℕ) → n < EVENTS
    → IsLinked s.table.entry s.table.mark s.queue n → Joins g e → AreApart s.table.entry
    → AreApart (after_event s me g e).table.entry
event_apart s me g (event.Lock h) n few l j ap = subst AreApart
    (sym (looks_same (next s.table me (step.Lock h g.walk (head_word (s.table.holder h) (s.table.spent h))))
    s.table.entry me).entry) ap
event_apart s me g (event.Active h hit) n few l j ap =
    subst AreApart (sym (peeks_same s.table s.table.entry me).entry) ap
event_apart s me g (event.Set c v) n few l j ap =
    subst AreApart (sym (set_rest s.table me g.watch v (value_of s.table.words g.watch)).entry) ap
event_apart s me g (event.Queue h form) n few l j apart =
    added_apart s.table.entry s.table.mark s.queue n l apart few (own me)
    (entry_for g form (place_for form (s.queue h))) form
    (ap (λ (i : ℕ). place_for form (s.queue i)) (sym j.0))
event_apart s me g (event.Unqueue who) n few l j ap = removed_apart s.table.entry s.table.mark s.queue n l ap (own who)
event_apart s me g e n few l j ap = ap
