-- To be believed.
-- How far a look at the members of a head has come, one word after another.
use Rattle.std.specs.Prelude.{ℕ, ◌≡◌, ◌+◌, ◌-◌, ◌*◌, ◌/◌, ◌%◌, ◌<◌, ◌≤◌, Bool, true, false, Option, Some, None}
use Rattle.wait_model.specs.{declared.layout.TheConstants.MEMBERS, declared.layout.TheConstants.WORD_BITS, Words.bit_at}
use Rattle.wait_rule.specs.{Known.Known, LookCounts.looks_made, Says.told_of, Says.noted, Queues.place_by}
use Rattle.wq_head.specs.{declared.looking.Looking.Looking, Looks.is_seen_member, Members.IsShownMember}

-- the hold has seen this word, and no member stands there
pub record IsClear (k : Known) (m : ℕ) : Type 0 where
  pub seen : is_seen_member (told_of k) (noted k) m ≡ true
  pub none : place_by k m ≡ None
  pub stands : IsShownMember k m

-- the hold has seen this word, and a member stands there
pub record IsSet (k : Known) (m : ℕ) : Type 0 where
  pub seen : is_seen_member (told_of k) (noted k) m ≡ true
  pub place : ℕ
  pub there : place_by k m ≡ Some place
  pub stands : IsShownMember k m

abbrev pub IsByBit : Bool → Known → ℕ → Type 0
IsByBit true k m = IsSet k m
IsByBit false k m = IsClear k m

-- by their bits each of the indexes, from one on, of the first n bits of a word
abbrev pub AreByBits : Known → ℕ → ℕ → ℕ → Type 0
AreByBits k from w n = (b : ℕ) → b < n → IsByBit (bit_at w b) k (from + b)

-- each index from one on and below another is clear
abbrev pub AreNone : Known → ℕ → ℕ → Type 0
AreNone k from to = (m : ℕ) → from ≤ m → m < to → IsClear k m

-- The look goes on from an index. Where this is not the first one of its word, the word at hand is that word.
pub record IsLookingBy (k : Known) (l : Looking) : Type 0 where
  pub within : l.next ≤ MEMBERS
  pub loaded : 0 < l.next % WORD_BITS → AreByBits k (WORD_BITS * (l.next / WORD_BITS)) l.word WORD_BITS

-- it came from an index to the next one whose bit is set, or to the end
abbrev pub IsNextSet : Known → ℕ → Looking → Option ℕ → Type 0
IsNextSet k from l None = AreNone k from MEMBERS
IsNextSet k from l (Some m) =
    (from ≤ m) × (m < MEMBERS) × AreNone k from m × (l.next ≡ m + 1) × IsLookingBy k l × IsSet k m

-- how many words a look has loaded that goes on from an index
abbrev pub words_to : ℕ → ℕ
words_to next = (next + (WORD_BITS - 1)) / WORD_BITS

-- from one index to another it has loaded the words between them, each by one look
abbrev pub HasLoaded : Known → Known → ℕ → ℕ → Type 0
HasLoaded old new from to = looks_made new + words_to from ≡ looks_made old + words_to to
