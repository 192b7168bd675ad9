-- To be believed.
-- The list of a head's members.
use Rattle.std.specs.Prelude.{ℕ, ◌≡◌, ◌+◌, ◌-◌, ◌*◌, ◌/◌, ◌%◌, nat_lt, if◌then◌else◌, Some, List, map, slice_index}
use Rattle.std.specs.List.{All}
use Rattle.std.specs.List.Sorted.{IsNonDecreasingBy}
use Rattle.wait_model.specs.{declared.queues.Member.Member as Stand, EntryWords.place_shown, Words.entry_of}
use Rattle.wait_model.specs.Tables.{mark_of}
use Rattle.wait_model.specs.declared.layout.TheConstants.{TASKS, SLOTS, ENTRIES, INDEXES, PLACES}
use Rattle.wait_rule.specs.{Known.Known, Queues.index, Shown.shown_entry}
use Rattle.wq_head.specs.{Members.place_marked, declared.lists.Member.Member, declared.lists.Members.Members}
use Rattle.wq_head.specs.declared.lists.Member.TheVariants as member

-- the member of a number, with its word out of those by number
abbrev pub member_by : List ℕ → ℕ → Member
member_by words m = if nat_lt m ENTRIES
    then member.Entry (m / SLOTS) (m % SLOTS) (record { 0 = slice_index words m })
    else member.Mark ((m - ENTRIES) % TASKS) (slice_index words m)

-- the members of a list, in order
abbrev pub members_in : Members → List Member
members_in l = map (member_by l.words) l.order.items

-- a member with its place, as the model's queue has it
abbrev pub stand_in : Member → Stand
stand_in (member.Entry t s w) = record { at = index t s; place = place_shown (entry_of w.0) }
stand_in (member.Mark t w) = record { at = ENTRIES + t; place = place_marked (mark_of w) }

-- its word is what the hold shows of it
abbrev pub IsAsShown : Known → Member → Type 0
IsAsShown k (member.Entry t s w) = shown_entry k (index t s) ≡ entry_of w.0
IsAsShown k (member.Mark t w) = mark_of w ≡ Some (record { head = k.at; place = place_marked (mark_of w) })

abbrev pub AreAsShown : Known → List Member → Type 0
AreAsShown k ms = All (IsAsShown k) ms

-- the place in a word, the rank of a number by its word, and a list by these ranks
abbrev pub place_by_word : ℕ → ℕ
place_by_word w = w % PLACES

abbrev pub rank_by : List ℕ → ℕ → ℕ
rank_by words m = INDEXES * place_by_word (slice_index words m) + m

abbrev pub IsByRank : Members → Type 0
IsByRank l = IsNonDecreasingBy (rank_by l.words) l.order.items
