-- To be believed.
-- What a load of a member word tells in a hold: it stands for looks at the words of all its indexes, and each of these
-- names the head exactly where its bit is set.
use Rattle.std.specs.Prelude.{ℕ, zero, suc, ◌≡◌, ◌+◌, ◌-◌, ◌*◌, Bool, true, false, nat_lt}
use Rattle.wait_model.specs.{declared.layout.TheConstants.ENTRIES, declared.layout.TheConstants.WORD_BITS}
use Rattle.wait_model.specs.{Watches.stands_at, Words.bit_at, Words.entry_of, Tables.mark_of}
use Rattle.wait_model.specs.declared.steps.Step.TheVariants as step
use Rattle.wait_rule.specs.declared.journal.Item.TheVariants as item
use Rattle.wait_rule.specs.{Notes.is_at, Members.IsEntryWord, Members.IsMarkWord, Known.Known, Says.added}
use Rattle.wait_rule.specs.{Queues.KnewEntry, Queues.KnewMark}

-- a look at an entry word, or at a bookmark word, that found it naming head h exactly where the bit is set
pub record SawEntry (bit : Bool) (h x : ℕ) (old new : Known) : Type 0 where
  pub found : ℕ
  pub is : new ≡ added old (item.Made (step.Saw x found))
  pub lawful : IsEntryWord x found
  pub knew : KnewEntry old x found
  pub named : stands_at (entry_of found) h ≡ bit

pub record SawMark (bit : Bool) (h t : ℕ) (old new : Known) : Type 0 where
  pub found : ℕ
  pub is : new ≡ added old (item.Bookmark t found)
  pub lawful : IsMarkWord found
  pub knew : KnewMark old t found
  pub named : is_at h (mark_of found) ≡ bit

-- by whether the index is that of an entry
abbrev pub SawKind : Bool → Bool → ℕ → ℕ → Known → Known → Type 0
SawKind true bit h x old new = SawEntry bit h x old new
SawKind false bit h x old new = SawMark bit h (x - ENTRIES) old new

-- what the bit of this index tells
abbrev pub SawByBit : Bool → ℕ → ℕ → Known → Known → Type 0
SawByBit bit h x old new = SawKind (nat_lt x ENTRIES) bit h x old new

-- the same of the first n bits of word i of head h
unfoldable pub SawBits : ℕ → ℕ → ℕ → ℕ → Known → Known → Type 0
SawBits h i w zero old new = new ≡ old
SawBits h i w (suc n) old new =
    (mid : Known) × SawBits h i w n old mid × SawByBit (bit_at w n) h (WORD_BITS * i + n) mid new

-- The load of the word: it is one look, in place of those for which its bits stand.
pub record SawWord (h i w : ℕ) (old new : Known) : Type 0 where
  pub seen : Known
  pub bits : SawBits h i w WORD_BITS old seen
  pub is : new ≡ added seen (item.Word w)
