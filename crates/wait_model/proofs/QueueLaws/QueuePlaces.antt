-- Each form of an add keeps its queue in order, and takes a place within as many adds of the first one.
use Rattle.std.proofs.lemmas.Bool.Decides.{nat_tests}
use Rattle.std.proofs.Common.{refl, arith, inl, inr}
use Rattle.std.specs.Prelude.{ℕ, ◌≡◌, ◌≢◌, ◌+◌, ◌*◌, ◌<◌, ◌≤◌, ◌⊎◌, Option, Some, None, Bool, true, false, List, nat_lt}
use Rattle.wait_model.specs.{declared.queues.Member.Member, declared.queues.Form.Form, Reached.first_of}
use Rattle.wait_model.specs.Reached.{IsWithinAdds}
use Rattle.wait_model.specs.declared.layout.TheConstants.{PLACES, MIDDLE, FIRST_PRIORITY, FIRST_PLACE, INDEXES, EVENTS}
use Rattle.wait_model.specs.Queues.{place_before, place_behind, place_for, add_to, is_priority, rank, rank_at}
use Rattle.wait_model.specs.Queues.{member_from, last_within, front_add, mark_add, entries_of, IsIn, IsInOrder}
use Rattle.wait_model.specs.declared.queues.Form.TheVariants as forms
use Rattle.wait_model.proofs.QueueLaws.QueueOrder.{IsFirstFrom, first_is, added_in, new_in, old_in, GoesBetween}
use Rattle.wait_model.proofs.QueueLaws.QueueOrder.{order_added}
use Rattle.wait_model.proofs.QueueLaws.QueueEnds.{IsLastWithin, last_of, tail_added, tail_new, tail_old, order_tail}
use Rattle.wait_model.proofs.QueueLaws.QueueEnds.{entry_in, order_entries}
use Rattle.wait_model.proofs.QueueLaws.QueueMarks.{marked_in, mark_in, unmarked_in, order_marked}

pub near_low : (n p : ℕ) → n < EVENTS → IsWithinAdds n p → p < MIDDLE → (FIRST_PRIORITY ≤ p + 2 * n)
    × (p ≤ FIRST_PRIORITY + 2 * n)
near_low n p few (true, a, b) low = (a, b)
near_low n p few (false, a, b) low = absurd (omega arith)

pub near_high : (n p : ℕ) → n < EVENTS → IsWithinAdds n p → MIDDLE ≤ p → (FIRST_PLACE ≤ p + 2 * n)
    × (p ≤ FIRST_PLACE + 2 * n)
near_high n p few (true, a, b) high = absurd (omega arith)
near_high n p few (false, a, b) high = (a, b)

pub split : (p : ℕ) → (p < MIDDLE) ⊎ (MIDDLE ≤ p)
split p = by (nat_lt p MIDDLE) refl
  where
    by : (b : Bool) → nat_lt p MIDDLE ≡ b → (p < MIDDLE) ⊎ (MIDDLE ≤ p)
    by true t = inl (grind (arith, nat_tests))
    by false t = inr (grind (arith, nat_tests))

-- a queue with one more member, wherever it was put
pub record Adds (m : Member) (q r : List Member) : Type 0 where
  pub added : (y : Member) → IsIn y r → (y ≡ m) ⊎ IsIn y q
  pub new : IsIn m r
  pub old : (y : Member) → IsIn y q → IsIn y r
  pub order : IsInOrder r

-- the place of a form is near the first one, and the add keeps the order
pub record IsPlaceOfForm (form : Form) (q : List Member) (n x : ℕ) : Type 0 where
  pub above : first_of (is_priority form) ≤ place_for form q + 2 * (n + 1)
  pub below : place_for form q ≤ first_of (is_priority form) + 2 * (n + 1)
  pub adds : Adds (record { at = x; place = place_for form q }) q
      (add_to form (record { at = x; place = place_for form q }) q)

module _ (q : List Member) (n x : ℕ) (few : n < EVENTS) (order : IsInOrder q)
    (near : (m : Member) → IsIn m q → IsWithinAdds n m.place) (small : (m : Member) → IsIn m q → m.at < INDEXES)
    (own : x < INDEXES) (others : (m : Member) → IsIn m q → m.at ≢ x) where
  -- an insertion at a place
  ranked_adds : (e : Member) → e.at ≡ x → Adds e q (mark_add e q)
  ranked_adds e at = record {
    added = λ y. marked_in e y q;
    new = mark_in e q;
    old = λ y. unmarked_in e y q;
    order = order_marked e q order
        (λ y i s. let t : y.at < INDEXES = small y i in others y i (omega (arith, at)));
  }

  -- an insertion behind the entries with priority
  between_adds : (e : Member) → GoesBetween e q → Adds e q (front_add e q)
  between_adds e g = record {
    added = λ y. added_in e y q;
    new = new_in e q;
    old = λ y. old_in e y q;
    order = order_added e q order g;
  }

  front : (r : Option Member) → IsFirstFrom (λ _. true) (rank_at MIDDLE) q r
      → (FIRST_PLACE ≤ place_before r + 2 * (n + 1))
      × (place_before r ≤ FIRST_PLACE + 2 * (n + 1)) × GoesBetween (record { at = x; place = place_before r }) q
  front None f = (
    omega arith,
    omega arith,
    record {
      small = small;
      above = λ m i k. let c = near_low n m.place few (near m i) k in let s : m.at < INDEXES = small m i
          in omega (arith, c.1);
      below = λ m i k. let c : rank m < rank_at MIDDLE = f m i refl in absurd (omega arith);
    },
  )
  front (Some m) f =
      let s : m.at < INDEXES = small m f.0 in
      let l : rank_at MIDDLE ≤ rank m = f.2 in
      let u : MIDDLE ≤ m.place = omega arith in
      let c = near_high n m.place few (near m f.0) u in (
        omega (arith, c.0, c.1),
        omega (arith, c.0, c.1),
        record {
          small = small;
          above = λ y i k. let d = near_low n y.place few (near y i) k in let t : y.at < INDEXES = small y i
              in omega (arith, c.0, d.1);
          below = λ y i k. let d : rank m ≤ rank y = f.3 y i refl (omega arith) in omega arith;
        },
      )

  with_priority : (r : Option Member) → IsLastWithin 0 MIDDLE (entries_of q) r
      → (FIRST_PRIORITY ≤ place_behind FIRST_PRIORITY r + 2 * (n + 1))
      × (place_behind FIRST_PRIORITY r ≤ FIRST_PRIORITY + 2 * (n + 1))
  with_priority None f = (omega arith, omega arith)
  with_priority (Some m) f = let c = near_low n m.place few (near m (entry_in m q f.0).0) f.2 in
      (omega (arith, c.0, c.1), omega (arith, c.0, c.1))

  at_tail : (r : Option Member) → IsLastWithin MIDDLE PLACES q r
      → (FIRST_PLACE ≤ place_behind FIRST_PLACE r + 2 * (n + 1))
      × (place_behind FIRST_PLACE r ≤ FIRST_PLACE + 2 * (n + 1))
      × ((m : Member) → IsIn m q → rank m < rank (record { at = x; place = place_behind FIRST_PLACE r }))
  at_tail None f = (omega arith, omega arith, below)
    where
      below : (m : Member) → IsIn m q → rank m < rank (record { at = x; place = FIRST_PLACE })
      below m i = elim (split m.place) [
        | inl k ↦ let c = near_low n m.place few (near m i) k in let s : m.at < INDEXES = small m i
            in omega (arith, c.1)
        | inr k ↦ let c = near_high n m.place few (near m i) k in absurd (f m i k (omega (arith, c.1)))
      ]
  at_tail (Some b) f =
      let c = near_high n b.place few (near b f.0) f.1 in
      (omega (arith, c.0, c.1), omega (arith, c.0, c.1), below)
    where
      below : (m : Member) → IsIn m q
          → rank m < rank (record { at = x; place = place_behind FIRST_PLACE (Some b) })
      below m i = elim (split m.place) [
        | inl k ↦ let c = near_low n m.place few (near m i) k in let u : MIDDLE ≤ b.place = f.1 in
            let s : m.at < INDEXES = small m i in omega (arith, c.1)
        | inr k ↦ let c = near_high n m.place few (near m i) k in let d : rank m ≤ rank b =
            f.3 m i k (omega (arith, c.1)) in let s : b.at < INDEXES = small b f.0 in omega arith
      ]

  pub form_adds : (form : Form) → IsPlaceOfForm form q n x
  form_adds forms.Front = let f = front (member_from (rank_at MIDDLE) q)
      (first_is (λ _. true) (rank_at MIDDLE) q order)
      in record { above = f.0; below = f.1; adds = between_adds _ f.2 }
  form_adds forms.Priority = let f = with_priority (last_within 0 MIDDLE (entries_of q))
      (last_of 0 MIDDLE (entries_of q) (order_entries q order))
      in record { above = f.0; below = f.1; adds = ranked_adds _ refl }
  form_adds forms.Tail = let f = at_tail (last_within MIDDLE PLACES q) (last_of MIDDLE PLACES q order)
      in record {
        above = f.0;
        below = f.1;
        adds = record {
          added = λ y. tail_added _ y q;
          new = tail_new _ q;
          old = λ y. tail_old _ y q;
          order = order_tail _ q order f.2;
        };
      }
