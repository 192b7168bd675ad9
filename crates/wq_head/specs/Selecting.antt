-- For proofs alone.
-- What a selection under way knows and keeps, for the functions of a selection.
use Rattle.std.specs.Prelude.{ℕ, ◌≡◌, ◌≢◌, ◌<◌, ◌≤◌, ◌⊎◌, true, Some, None}
use Rattle.wait_model.specs.declared.layout.TheConstants.{FIRST_SIMPLE_HEAD, ENTRIES, MEMBERS}
use Rattle.wait_model.specs.Queues.{rank}
use Rattle.wait_rule.specs.{Known.Known, Queues.IsWholeBook, Queues.place_by, Says.noted}
use Rattle.wq_head.specs.{Holds.IsHolding, Members.AreStanding, Selects.KeepsHold, Selects.SelectsFirst}

-- the hold of a simple head shows all of its members, and no entry before this one
pub record IsFirstEntry (k : Known) (member : ℕ) : Type 0 where
  pub holding : IsHolding k
  pub simple : FIRST_SIMPLE_HEAD ≤ k.at
  pub whole : IsWholeBook k
  pub standing : AreStanding k MEMBERS
  pub counts : member < ENTRIES
  pub place : ℕ
  pub stands : place_by k member ≡ Some place
  pub least : (m p : ℕ) → m < ENTRIES → place_by k m ≡ Some p
      → rank (record { at = member; place = place }) ≤ rank (record { at = m; place = p })

-- it was selected, and all other members stand as before
pub record HasSelectedFirst (old new : Known) (member : ℕ) : Type 0 where
  pub selects : SelectsFirst old new
  pub keeps : KeepsHold old new
  pub whole : IsWholeBook new
  pub standing : AreStanding new MEMBERS
  pub used : (noted new).used ≡ true
  pub is_off : place_by new member ≡ None
  pub others : (m p : ℕ) → m < MEMBERS → m ≢ member → place_by old m ≡ Some p → place_by new m ≡ Some p
  pub stood : (m p : ℕ) → m < MEMBERS → place_by new m ≡ Some p → place_by old m ≡ Some p

-- the only member was selected, or it is a bookmark and stands as before
abbrev pub HasSelectedSole : Known → Known → ℕ → ℕ → Type 0
HasSelectedSole old new member n = ((ENTRIES ≤ member) × (n ≡ 0) × (new ≡ old))
    ⊎ ((member < ENTRIES) × (n ≡ 1) × HasSelectedFirst old new member)
