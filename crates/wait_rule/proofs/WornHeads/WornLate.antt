-- A head at which no place is left has had very many adds.
use Rattle.std.proofs.Common.{refl, ◌∙◌, ap, arith, inl, inr}
use Rattle.std.specs.Prelude.{ℕ, ◌≡◌, ◌+◌, ◌%◌, ◌<◌, ◌≤◌, ◌⊎◌, Bool, true, false, nat_lt, if◌then◌else◌, Some, None}
use Rattle.std.specs.Prelude.{List}
use Rattle.std.proofs.lemmas.Bool.Decides.{nat_tests}
use Rattle.wait_model.specs.{Watches.head_of, Tables.Table, Fold.view_of, Queues.even_below, Queues.even_above}
use Rattle.wait_model.specs.Views.{View as Told}
use Rattle.wait_model.specs.declared.layout.TheConstants.{PLACES, MIDDLE, FIRST_PRIORITY, FIRST_PLACE}
use Rattle.wait_model.specs.Places.{within, front_for, tail_for, priority_for}
use Rattle.wait_rule.specs.{declared.journal.Item.Item, Items.steps_of, Notes.Notes, Notes.notes_of, Known.Known}
use Rattle.wait_rule.specs.{Says.told_of, Says.noted, Ends.worn_adds, Ends.IsEnd}
use Rattle.wait_rule.specs.Rule.{IsLawfulTable, IsWhole, AreLinked, all_notes}
use Rattle.wait_rule.specs.Places.{queued_at, first_for, IsNear, ArePlaced}
use Rattle.wait_rule.specs.Worn.{ShowsEnd, EntriesWearLate, MarksWearLate, HoldsWearLate}
use Rattle.wait_rule.proofs.KnownLaws.MemberPlaces.{shown_near, shown_first}

pub within_none : (low high place : ℕ) → within low high place ≡ None → (place < low) ⊎ (high ≤ place)
within_none low high place = by (nat_lt place low) refl (nat_lt place high) refl
  where
    by : (x : Bool) → nat_lt place low ≡ x → (y : Bool) → nat_lt place high ≡ y
        → (if x then None else if y then Some place else None) ≡ None → (place < low) ⊎ (high ≤ place)
    by true q y r is = inl (grind (arith, nat_tests))
    by false q true r is = absurd (cc)
    by false q false r is = inr (grind (arith, nat_tests))

-- how far such a place is from the first
front_end : (p : ℕ) → p < PLACES → front_for (Some p) ≡ None → p ≤ MIDDLE
front_end p few is = elim (within_none MIDDLE PLACES (even_below p) is) [
  | inl low ↦ omega arith
  | inr high ↦ omega arith
]

tail_end : (p : ℕ) → MIDDLE ≤ p → tail_for (Some p) ≡ None → PLACES ≤ p + 2
tail_end p far is = elim (within_none MIDDLE PLACES (even_above p) is) [
  | inl low ↦ omega arith
  | inr high ↦ omega arith
]

priority_end : (p : ℕ) → priority_for (Some p) ≡ None → MIDDLE ≤ p + 2
priority_end p is = elim (within_none 0 MIDDLE (even_above p) is) [
  | inl low ↦ omega arith
  | inr high ↦ omega arith
]

-- so many adds lead there, also to the place behind
plain_late : (p q n : ℕ) → p ≤ q → q ≤ p + 1 → IsNear FIRST_PLACE q n → IsEnd false p → worn_adds ≤ n
plain_late p q n low high near (far, few, inl is) =
    let e = front_end p few is in
    let a = near.above in
    omega arith
plain_late p q n low high near (far, few, inr is) =
    let e = tail_end p far is in
    let b = near.below in
    omega arith

priority_late : (p n : ℕ) → IsNear FIRST_PRIORITY p n → IsEnd true p → worn_adds ≤ n
priority_late p n near end =
    let e = priority_end p end.1 in
    let b = near.below in
    omega arith

pub entries_late : EntriesWearLate
entries_late s items ruled x e is end = by e.priority (ruled.placed.entries x e is) end
  where
    by : (b : Bool) → IsNear (first_for b) e.place (queued_at (head_of e.watch) s.history) → IsEnd b e.place
        → worn_adds ≤ queued_at (head_of e.watch) s.history
    by true near at = priority_late e.place (queued_at (head_of e.watch) s.history) near at
    by false near at = plain_late e.place e.place (queued_at (head_of e.watch) s.history) (omega arith) (omega arith)
        near at

pub marks_late : MarksWearLate
marks_late s items ruled t m is end = plain_late m.place (m.place + 1) (queued_at m.head s.history) (omega arith)
    (omega arith) (ruled.placed.marks t m is) end

-- a hold in a table with these parts of the rule
pub parts_late : (s : Table) (notes : ℕ → Notes) → IsWhole s → IsLawfulTable s → AreLinked s notes → ArePlaced s
    → (a h p : ℕ) (k : Known) → (s.view a).hold.head ≡ Some h → s.view a ≡ told_of k → notes a ≡ noted k
    → ShowsEnd k p → worn_adds ≤ queued_at h s.history
parts_late s notes whole lawful linked placed a h p k there told told_notes shows = by shows
  where
    plain : (IsNear FIRST_PLACE p (queued_at h s.history) × (p % 2 ≡ 0))
        ⊎ (IsNear FIRST_PLACE (p + 1) (queued_at h s.history) × (p % 2 ≡ 1)) → IsEnd false p
        → worn_adds ≤ queued_at h s.history
    plain (inl near) end = plain_late p p (queued_at h s.history) (omega arith) (omega arith) near.0 end
    plain (inr near) end = plain_late p (p + 1) (queued_at h s.history) (omega arith) (omega arith) near.0 end

    by : ShowsEnd k p → worn_adds ≤ queued_at h s.history
    by (inl z) = plain (shown_near s notes whole lawful linked placed a h k there told told_notes p z.0) z.1
    by (inr z) = priority_late p (queued_at h s.history)
        (shown_first s notes whole lawful linked placed a h k there told told_notes p z.0) z.1

pub holds_late : HoldsWearLate
holds_late s items ruled k h p own held shows = parts_late s (all_notes items) ruled.whole ruled.lawful ruled.linked
    ruled.placed k.view.number h p k (ap (λ (v : Told). v.hold.head) told ∙ held) told (ap (notes_of k.view.number) own)
    shows
  where
    told : s.view k.view.number ≡ told_of k
    told = ruled.whole.told k.view.number ∙ (ap view_of (ruled.histories k.view.number)
        ∙ ap (λ (xs : List Item). view_of (steps_of xs)) own)
