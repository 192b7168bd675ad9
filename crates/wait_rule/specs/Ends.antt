-- To be believed.
-- Where the members of a head stand in a hold, and at which places no place is left for an add.
use Rattle.std.specs.Prelude.{◌/◌, ℕ, ◌≡◌, ◌-◌, ◌<◌, ◌≤◌, ◌⊎◌, Bool, true, false, nat_lt, if◌then◌else◌, Option, Some}
use Rattle.std.specs.Prelude.{None, List, ◌++◌}
use Rattle.wait_model.specs.{Views.View as Told, Fold.view_of}
use Rattle.wait_model.specs.declared.layout.TheConstants.{ENTRIES, MEMBERS, PLACES, MIDDLE, FIRST_PLACE}
use Rattle.wait_model.specs.Places.{front_for, tail_for, priority_for}
use Rattle.wait_rule.specs.{declared.journal.Item.Item, Items.steps_of}
use Rattle.wait_rule.specs.Notes.{Notes, notes_of, look_place, glance_place}

-- Members by number: entries by their index, and the bookmark of task t by `ENTRIES` + t. The place at which the hold
-- shows a member of its head.
abbrev pub place_in : Told → Notes → ℕ → Option ℕ
place_in v n m = if nat_lt m ENTRIES then look_place (v.hold.book m) else glance_place (n.marks (m - ENTRIES))

-- the hold shows one of the first members at this place, from `low` on and below `high`
pub record StandsAt (v : Told) (n : Notes) (count low high p : ℕ) : Type 0 where
  pub member : ℕ
  pub counts : member < count
  pub stands : place_in v n member ≡ Some p
  pub above : low ≤ p
  pub below : p < high

-- no place is left before a member that stands here, or after it; with priority, after an entry
abbrev pub IsEnd : Bool → ℕ → Type 0
IsEnd true p = (p < MIDDLE) × (priority_for (Some p) ≡ None)
IsEnd false p = (MIDDLE ≤ p) × (p < PLACES) × ((front_for (Some p) ≡ None) ⊎ (tail_for (Some p) ≡ None))

-- the hold shows a member at a place before or after which no place is left, or an entry with priority
abbrev pub EndsAt : Told → Notes → ℕ → Type 0
EndsAt v n p = (StandsAt v n MEMBERS MIDDLE PLACES p × IsEnd false p) ⊎ (StandsAt v n ENTRIES 0 MIDDLE p × IsEnd true p)

-- After some front of the list of task `me` the task held this head, and its hold showed such a place. It stays so
-- when the list grows.
pub record WasWorn (me : ℕ) (items : List Item) (h p : ℕ) : Type 0 where
  pub front : List Item
  pub rest : List Item
  pub split : items ≡ front ++ rest
  pub held : (view_of (steps_of front)).hold.head ≡ Some h
  pub shows : EndsAt (view_of (steps_of front)) (notes_of me front) p

-- so many entries were queued at a head at which no place is left
abbrev pub worn_adds : ℕ
worn_adds = (PLACES - FIRST_PLACE) / 2
