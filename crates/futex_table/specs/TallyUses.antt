-- To be believed.
-- What a call does with a tally under a mutex, by the task's own history.
use Rattle.std.specs.Prelude.{ℕ, ◌+◌, ◌≡◌, ◌≢◌, Bool, true}
use Rattle.wait_model.specs.declared.steps.Step.TheVariants as step
use Rattle.wait_model.specs.declared.watches.Watch.TheVariants as watch
use Rattle.wait_model.specs.{Histories.Lacks, Totals.total}
use Rattle.wait_rule.specs.declared.journal.Item.TheVariants as item
use Rattle.wait_rule.specs.{Aside.Grows, Known.Known, Says.added, Says.history_of}
use Rattle.futex_table.specs.{GuardedTallies.UsesTally, GuardedTallies.tally_adds, OneHolder.stores_word}

-- A task that has used mutex m and tally c as it should has done so still, and has added to the tally so many times
-- more. Its journal has more items of its own and nothing else.
pub record AddsToTally (old new : Known) (m c n : ℕ) : Type 0 where
  pub grows : Grows old new
  pub uses : (opens : Bool) → UsesTally m c opens (history_of old) → UsesTally m c opens (history_of new)
  pub adds : total (tally_adds c) (history_of new) ≡ total (tally_adds c) (history_of old) + n

-- The call is about word w, and leaves every other tally as it was.
abbrev pub LeavesTallies : ℕ → Known → Known → Type 0
LeavesTallies w old new = (m c : ℕ) → c ≢ w → AddsToTally old new m c 0

-- The call is about word w, and leaves every other tally whose mutex is another word as it was.
abbrev pub LeavesApart : ℕ → Known → Known → Type 0
LeavesApart w old new = (m c : ℕ) → m ≢ w → c ≢ w → AddsToTally old new m c 0

-- It opens mutex m, in whose word the task had stored nothing before.
abbrev pub OpensTallies : ℕ → Known → Known → Type 0
OpensTallies m old new = Lacks (stores_word m) (history_of old) → (c : ℕ) → c ≢ m
    → (UsesTally m c true (history_of old) → UsesTally m c true (history_of new))
    × (total (tally_adds c) (history_of new) ≡ total (tally_adds c) (history_of old))

-- One store of the value in word w, and nothing behind it that a tally tells of.
pub record StoresWord (old new : Known) (w value : ℕ) : Type 0 where
  pub found : ℕ
  pub stored : Known
  pub is : stored ≡ added old (item.Made (step.Publish (watch.Plain w) value found))
  pub behind : (m c : ℕ) → AddsToTally stored new m c 0
