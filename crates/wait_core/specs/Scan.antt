-- For proofs alone.
-- The member that a scan over the words of entries and bookmarks finds.
use Rattle.std.specs.Prelude.{◌≡◌, ℕ, ◌+◌, ◌<◌, Bool, true, false, ◌&&◌, ◌==◌, nat_lt, if◌then◌else◌, List, slice_index}
use Rattle.std.specs.Prelude.{Option, Some, None}
use Rattle.wait_model.specs.{declared.layout.TheConstants.ENTRY_AT, declared.layout.TheConstants.BOOKMARK_AT}
use Rattle.wait_model.specs.{declared.watches.Entry.Entry, declared.queues.Member.Member, declared.queues.Mark.Mark}
use Rattle.wait_model.specs.{Words.entry_of, Tables.mark_of}
use Rattle.wait_model.specs.Queues.{stand_of, rank, is_within}
use Rattle.wait_core.specs.declared.scan.Span.{Span}

-- the entry that an entry word shows, the bookmark that a bookmark word shows, and what the words show of a
-- member by its number
abbrev pub entry_in_words : List ℕ → ℕ → Option Entry
entry_in_words words x = entry_of (slice_index words (ENTRY_AT + x))

abbrev pub shown_mark : List ℕ → ℕ → Option Mark
shown_mark words t = mark_of (slice_index words (BOOKMARK_AT + t))

abbrev pub shown_stand : List ℕ → ℕ → Option Mark
shown_stand words x = stand_of (entry_in_words words) (shown_mark words) x

-- a member that the scan looks at, its place, and which of two ranks it prefers
abbrev pub marked_member : ℕ → Mark → Member
marked_member x k = record { at = x; place = k.place }

abbrev pub found_place : Option Member → Option ℕ
found_place None = None
found_place (Some m) = Some m.place

abbrev pub is_in_span : Span → ℕ → Mark → Bool
is_in_span span x k = (k.head == span.head) && is_within span.low span.high (rank (marked_member x k))

abbrev pub prefers : Span → ℕ → ℕ → Bool
prefers span p q = if span.last then nat_lt q p else nat_lt p q

-- of the members below n, one that counts, where no other that counts is preferred
pub record IsPick (f : ℕ → Option Mark) (n : ℕ) (span : Span) (b : Member) : Type 0 where
  pub stand : Mark
  pub stands : f b.at ≡ Some stand
  pub place : stand.place ≡ b.place
  pub inside : b.at < n
  pub counted : is_in_span span b.at stand ≡ true
  pub best : (x : ℕ) (k : Mark) → x < n → f x ≡ Some k → is_in_span span x k ≡ true
      → prefers span (rank (marked_member x k)) (rank b) ≡ false

abbrev pub IsPicked : (ℕ → Option Mark) → ℕ → Span → Option Member → Type 0
IsPicked f n span None = (x : ℕ) (k : Mark) → x < n → f x ≡ Some k → is_in_span span x k ≡ false
IsPicked f n span (Some b) = IsPick f n span b
