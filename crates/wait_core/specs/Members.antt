-- To be believed.
-- The members of a head: the entries that are queued at it and the bookmarks that stand at it.
use Rattle.std.specs.Prelude.{◌≡◌, ℕ, ◌+◌, ◌<◌, ◌≤◌, ◌⊎◌, Option, Some, None}
use Rattle.wait_model.specs.{declared.layout.TheConstants.TASKS, declared.layout.TheConstants.ENTRIES}
use Rattle.wait_model.specs.{declared.watches.Entry.Entry, declared.queues.Member.Member, Watches.head_of, Queues.rank}
use Rattle.wait_model.specs.Tables.{Table}

-- an entry whose word names the head and this place
pub record IsEntryAt (t : Table) (h : ℕ) (m : Member) : Type 0 where
  pub number : m.at < ENTRIES
  pub entry : Entry
  pub stands : t.entry m.at ≡ Some entry
  pub head : head_of entry.watch ≡ h
  pub place : entry.place ≡ m.place

-- a task's bookmark whose word names the head and this place
pub record IsMarkAt (t : Table) (h : ℕ) (m : Member) : Type 0 where
  pub task : ℕ
  pub exists : task < TASKS
  pub number : m.at ≡ ENTRIES + task
  pub stands : t.mark task ≡ Some (record { head = h; place = m.place })

abbrev pub IsMemberAt : Table → ℕ → Member → Type 0
IsMemberAt t h m = IsEntryAt t h m ⊎ IsMarkAt t h m

-- the head's next member from a rank on: the one of the lowest rank, and none where there is none
abbrev pub IsNextAt : Table → ℕ → ℕ → Option Member → Type 0
IsNextAt t h least None = (m : Member) → IsMemberAt t h m → rank m < least
IsNextAt t h least (Some m) = IsMemberAt t h m × (least ≤ rank m)
    × ((o : Member) → IsMemberAt t h o → least ≤ rank o → rank m ≤ rank o)
