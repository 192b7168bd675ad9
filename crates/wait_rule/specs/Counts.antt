-- To be believed.
-- What contracts say of the done counts of completions.
use Rattle.std.specs.Prelude.{ℕ, ◌≡◌, ◌≤◌, ◌⊎◌, false, Option, Some}
use Rattle.wait_model.specs.{declared.layout.TheConstants.ALL_DONE, Watches.head_of, Runs.is_publishing, Runs.set_step}
use Rattle.wait_model.specs.DoneCounts.{IsStored}
use Rattle.wait_model.specs.declared.watches.Watch.TheVariants as watch
use Rattle.wait_rule.specs.declared.journal.Item.TheVariants as item
use Rattle.wait_rule.specs.{HeldValues.count_in, Known.Known, Says.added, Says.history_of}
use Rattle.wait_rule.specs.Stays.{Carries, unchanged, publish_change}

-- the task holds the head of the completion
abbrev pub HoldsCount : Known → ℕ → Type 0
HoldsCount k d = k.book.head ≡ Some (head_of (watch.Done d))

-- The count was found as n. It has 32 bits, and while the task holds its head it is what the hold has loaded or stored
-- last.
abbrev pub FindsCount : Known → ℕ → ℕ → Type 0
FindsCount k d n = (n ≤ ALL_DONE)
    × (HoldsCount k d → (v : ℕ) → count_in d (history_of k) ≡ Some v → n ≡ v)

-- A count may be stored in a hold of its head: 0, `ALL_DONE`, or one more or one less than the hold has loaded or
-- stored last.
abbrev pub IsCountFor : Option ℕ → ℕ → Type 0
IsCountFor o n = (n ≡ 0) ⊎ ((n ≡ ALL_DONE) ⊎ ((v : ℕ) × (o ≡ Some v) × IsStored n v))

pub record MayStoreCount (k : Known) (d n : ℕ) : Type 0 where
  pub held : HoldsCount k d
  pub value : IsCountFor (count_in d (history_of k)) n

-- The count was stored over the one that was found: a publish where it raised that one or is `ALL_DONE`, and else a
-- consume.
pub record StoresCount (old new : Known) (d n : ℕ) : Type 0 where
  pub found : ℕ
  pub finds : FindsCount old d found
  pub is : new ≡ added old (item.Made (set_step (watch.Done d) n found))
  pub publishes : Carries (publish_change (watch.Done d)) old new
  pub consumes : is_publishing (watch.Done d) found n ≡ false → Carries unchanged old new
