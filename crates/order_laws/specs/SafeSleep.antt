-- To be believed.
-- What the law on lost wakes says of whoever sleeps on a watch.
use Rattle.std.specs.Prelude.{ℕ, ◌≡◌, ◌⊎◌, true}
use Rattle.wait_model.specs.{declared.watches.Entry.Entry, declared.watches.Watch.Watch, Tables.Table, Tables.met}
use Rattle.wait_model.specs.Wakes.{IsCovered, IsTried, Sleeps, UsedUp}

-- The owner of entry x sleeps on the watch, and where that is set it is covered by a task that owes the wake; or walks
-- used up their count since; or some task is trying the bit.
pub record SleepsSafely (s : Table) (x : ℕ) (e : Entry) (c : Watch) : Type 0 where
  pub sleeps : Sleeps s x e c
  pub woken : met s.words c ≡ true → IsCovered s x e ⊎ (UsedUp s x e c sleeps ⊎ IsTried s c)
