-- To be believed.
-- The words that stand beside the model's table: those by which a head knows its members, tickets, tallies, and the
-- claims and cells of pipes.
use Rattle.std.specs.Prelude.{ℕ, ◌≡◌, ◌≢◌, ◌+◌, ◌-◌, ◌*◌, ◌<◌, Bool, true, false, nat_lt, if◌then◌else◌, Option, Some}
use Rattle.std.specs.Prelude.{None, List, length, slice_index}
use Rattle.wait_model.specs.{Watches.owner, Watches.stands_at, Words.bit_word, Tables.Table, Rows.IsUntested}
use Rattle.wait_model.specs.declared.layout.TheConstants.{ENTRIES, WORD_BITS, MEMBER_WORDS, WORDS}
use Rattle.wait_model.specs.Locations.{IsLocation, position_of, word_in}
use Rattle.wait_model.specs.Locations as place
use Rattle.wait_rule.specs.{declared.journal.Item.Item, Notes.is_at}
use Rattle.wait_rule.specs.Items.{Difference, nothing, at_entry, at_mark, page_taken, page_told, book_of}

-- member words, tickets, tallies, claims and cells, which no step of the model is about
abbrev pub is_beside : place.Location → Bool
is_beside (place.Member k) = true
is_beside (place.Next h) = true
is_beside (place.Serving h) = true
is_beside (place.Tally p) = true
is_beside (place.Cell k) = true
is_beside (place.Claim k) = true
is_beside _ = false

-- what stands in a word, with the words beside the table
abbrev pub word_with : Table → (place.Location → ℕ) → place.Location → ℕ
word_with s beside l = if is_beside l then beside l else word_in s l

-- a list of words shows a table and the words beside it
pub record ShowsWith (words : List ℕ) (s : Table) (beside : place.Location → ℕ) : Type 0 where
  pub count : length words ≡ WORDS
  pub each : (l : place.Location) → IsLocation l → slice_index words (position_of l) ≡ word_with s beside l

-- the word of an entry or a bookmark, by the member's index, names this head
abbrev pub names : Table → ℕ → ℕ → Bool
names s h x = if nat_lt x ENTRIES then stands_at (s.entry x) h else is_at h (s.mark (x - ENTRIES))

-- the index of the word that a task names as different from its bit, and whether the word names the task's head
abbrev pub index_named : ℕ → Difference → Option ℕ
index_named me nothing = None
index_named me (at_entry x on) = Some x
index_named me (at_mark on) = Some (ENTRIES + me)
index_named me (page_taken x) = None
index_named me (page_told x) = None

abbrev pub is_put : Difference → Bool
is_put nothing = false
is_put (at_entry x on) = on
is_put (at_mark on) = on
is_put (page_taken x) = false
is_put (page_told x) = false

-- word i of a head whose members these are
abbrev pub member_word : (ℕ → Bool) → ℕ → ℕ
member_word members i = bit_word WORD_BITS (λ k. members (WORD_BITS * i + k))

-- what each task names, by its list
abbrev pub all_differences : (ℕ → List Item) → ℕ → Difference
all_differences items t = (book_of (items t)).differs

-- Member words: a head's bit of an index is set exactly where that word names the head, but for the one index that a
-- task which holds the head names. So all bits of a free head are true. Of the named index the task knows what its word
-- says; where it is that of an entry which stands there, it is the task's own, and the task has tested no watch since
-- it queued it.
pub record AreMembers (s : Table) (differs : ℕ → Difference) (beside : place.Location → ℕ) : Type 0 where
  pub bits : ℕ → ℕ → Bool
  pub spells : (h i : ℕ) → i < MEMBER_WORDS → beside (place.Member (MEMBER_WORDS * h + i)) ≡ member_word (bits h) i
  pub agrees : (h x : ℕ) → ((a : ℕ) → (s.view a).hold.head ≡ Some h → index_named a (differs a) ≢ Some x)
      → bits h x ≡ names s h x
  pub named : (a h x : ℕ) → (s.view a).hold.head ≡ Some h → index_named a (differs a) ≡ Some x
      → names s h x ≡ is_put (differs a)
  pub untested : (a h x : ℕ) → (s.view a).hold.head ≡ Some h → differs a ≡ at_entry x true
      → (owner x ≡ a) × IsUntested (s.view a) h x
