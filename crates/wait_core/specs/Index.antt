-- For proofs alone.
-- The members that stand, in one list by rising head and rank.
use Rattle.std.specs.Prelude.{◌≡◌, ℕ, ◌+◌, ◌*◌, ◌<◌, List, length, slice_index_or, Option, Some}
use Rattle.wait_model.specs.{declared.queues.Mark.Mark, Queues.rank}
use Rattle.wait_model.specs.declared.layout.TheConstants.{TASKS, ENTRIES, MEMBERS, INDEXES}
use Rattle.wait_model.specs.Locations.{Location, Entry, Bookmark}
use Rattle.wait_core.specs.{declared.index.TheConstants.RANKS, declared.index.RankedMember.RankedMember}
use Rattle.wait_core.specs.{declared.index.Class.Class, Scan.marked_member}
use Rattle.std.specs.List.{Contains}
use Rattle.wait_core.specs.declared.index.Class.TheVariants as class

-- the list goes by this number, which rises with the head, and within a head with the rank
abbrev pub key_at : ℕ → ℕ → ℕ
key_at head r = RANKS * head + r

abbrev pub key : RankedMember → ℕ
key a = key_at a.head a.rank

-- each rank has its bits, and the keys rise
pub record IsSorted (index : List RankedMember) : Type 0 where
  pub ranks : (i : ℕ) (d : RankedMember) → i < length index → (slice_index_or index i d).rank < RANKS
  pub rises : (i j : ℕ) (d : RankedMember) → i < j → j < length index
      → key (slice_index_or index i d) < key (slice_index_or index j d)

-- the element of the list for what stands, by the member's number
abbrev pub standing_of : ℕ → Mark → RankedMember
standing_of x k = record { head = k.head; rank = rank (marked_member x k) }

-- what an element of the list tells: the member with this number stands there
pub record IsListedMember (f : ℕ → Option Mark) (a : RankedMember) : Type 0 where
  pub number : ℕ
  pub small : number < MEMBERS
  pub stand : Mark
  pub stands : f number ≡ Some stand
  pub head : a.head ≡ stand.head
  pub rank : a.rank ≡ INDEXES * stand.place + number

-- the list is sorted, and holds exactly the members that stand
pub record IsIndex (f : ℕ → Option Mark) (index : List RankedMember) : Type 0 where
  pub order : IsSorted index
  pub shown : (i : ℕ) (d : RankedMember) → i < length index → IsListedMember f (slice_index_or index i d)
  pub holds : (x : ℕ) (k : Mark) → x < MEMBERS → f x ≡ Some k → Contains index (standing_of x k)

-- the class of a word, and the numbers of each class
abbrev pub class_of : Location → Class
class_of (Entry x) = class.Entry x
class_of (Bookmark t) = class.Bookmark t
class_of _ = class.Other

abbrev pub IsClass : Class → Type 0
IsClass (class.Entry x) = x < ENTRIES
IsClass (class.Bookmark t) = t < TASKS
IsClass class.Other = Unit {0}
