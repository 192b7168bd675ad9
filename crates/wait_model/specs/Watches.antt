-- To be believed.
-- What tasks wait for, the heads at which they queue, and when a test fails.
use Rattle.std.specs.Prelude.{ℕ, ◌+◌, ◌*◌, ◌/◌, ◌%◌, ◌^◌, ◌<◌, nat_lt, Bool, true, false, not, ◌&&◌, ◌==◌}
use Rattle.std.specs.Prelude.{if◌then◌else◌, Option, Some, None}
use Rattle.wait_model.specs.{declared.watches.Watch.Watch, declared.watches.Entry.Entry, declared.watches.Kind.Kind}
use Rattle.wait_model.specs.{declared.watches.Mode.Mode, Words.bit_at}
use Rattle.wait_model.specs.declared.layout.TheConstants.{SLOTS, PLAIN_CONDITIONS, FIRST_SIMPLE, COMPLETIONS, BIT_WORDS}
use Rattle.wait_model.specs.declared.layout.TheConstants.{WORD_BITS, VARIABLES, FIRST_DONE, FIRST_BIT_WORD}
use Rattle.wait_model.specs.declared.layout.TheConstants.{FIRST_VARIABLE, FIRST_PLAIN_HEAD, FIRST_DONE_HEAD}
use Rattle.wait_model.specs.declared.layout.TheConstants.{INTERRUPTIBLE, NORMAL}
use Rattle.wait_model.specs.declared.watches.Watch.TheVariants as watch
use Rattle.wait_model.specs.declared.watches.Kind.TheVariants as kind
use Rattle.wait_model.specs.declared.watches.Mode.TheVariants as mode

-- the bit of a page
abbrev pub page : ℕ → Watch
page w = watch.Bit w 0

-- the two are woken by one wake: for a variable the old value does not matter
abbrev pub same : Watch → Watch → Bool
same (watch.Plain c) (watch.Plain d) = c == d
same (watch.Done c) (watch.Done d) = c == d
same (watch.Bit w b) (watch.Bit v a) = (w == v) && (b == a)
same (watch.Var v o) (watch.Var u p) = v == u
same _ _ = false

-- one of the heads of bits and variables
unfoldable pub hashed : ℕ → ℕ
hashed n = ((n * 0x61C8864680B583EB) % (2 ^ 64)) / (2 ^ 56)

unfoldable pub head_of : Watch → ℕ
unfolding hashed
head_of (watch.Plain c) = FIRST_PLAIN_HEAD + c
head_of (watch.Done d) = FIRST_DONE_HEAD + d
head_of (watch.Bit w b) = hashed (w * WORD_BITS + b)
head_of (watch.Var v o) = hashed (BIT_WORDS + v)

-- the numbers of a watch that a call names are in their ranges
abbrev pub IsThere : Watch → Type 0
IsThere (watch.Plain c) = c < PLAIN_CONDITIONS
IsThere (watch.Done d) = d < COMPLETIONS
IsThere (watch.Bit w b) = (w < BIT_WORDS) × (b < WORD_BITS)
IsThere (watch.Var v o) = v < VARIABLES

-- a word of this value does not set the watch
abbrev pub misses : Watch → ℕ → Bool
misses (watch.Plain c) r = r == 0
misses (watch.Done d) r = r == 0
misses (watch.Bit w b) r = bit_at r b
misses (watch.Var v old) r = r == old

-- the number of a watch's word among the condition words
abbrev pub number_of : Watch → ℕ
number_of (watch.Plain c) = c
number_of (watch.Done d) = FIRST_DONE + d
number_of (watch.Bit w b) = FIRST_BIT_WORD + w
number_of (watch.Var v o) = FIRST_VARIABLE + v

-- what an entry word shows of a watch: the old value of a variable stands in no word
abbrev pub bare : Watch → Watch
bare (watch.Plain c) = watch.Plain c
bare (watch.Done d) = watch.Done d
bare (watch.Bit w b) = watch.Bit w b
bare (watch.Var v o) = watch.Var v 0

-- the kind of entry by which a call waits: conditions below `FIRST_SIMPLE` have full heads, all others simple ones
abbrev pub kind_for : Watch → Kind
kind_for (watch.Plain c) = if nat_lt c FIRST_SIMPLE then kind.Autoremove else kind.Simple
kind_for (watch.Done d) = kind.Simple
kind_for (watch.Bit w b) = kind.Bit
kind_for (watch.Var v o) = kind.Var

-- the spent count of the head excuses this watch
abbrev pub counted : Watch → Bool
counted (watch.Plain c) = true
counted (watch.Done d) = true
counted (watch.Bit w b) = false
counted (watch.Var v o) = false

abbrev pub is_done : Watch → Bool
is_done (watch.Done d) = true
is_done _ = false

abbrev pub is_bit : Watch → Bool
is_bit (watch.Bit w b) = true
is_bit _ = false

abbrev pub is_var : Watch → Bool
is_var (watch.Var v o) = true
is_var _ = false

-- the word and the bit of a bit
abbrev pub word_of : Watch → ℕ
word_of (watch.Bit w b) = w
word_of _ = 0

abbrev pub bit_of : Watch → ℕ
bit_of (watch.Bit w b) = b
bit_of _ = 0

abbrev pub is_woken : Kind → Bool
is_woken kind.Woken = true
is_woken _ = false

-- the function of the entry takes the page for its task
abbrev pub is_page : Kind → Bool
is_page kind.Page = true
is_page _ = false

abbrev pub is_simple : Kind → Bool
is_simple kind.Simple = true
is_simple _ = false

-- the states that a wake of this mode meets
abbrev pub mask_of : Mode → ℕ
mask_of mode.Interruptible = INTERRUPTIBLE
mask_of mode.Normal = NORMAL

-- a load of the first watch's word that found r is one of the second's, and its test fails there
abbrev pub failing : Watch → ℕ → Watch → Bool
failing (watch.Plain c) r (watch.Plain d) = (c == d) && (r == 0)
failing (watch.Done c) r (watch.Done d) = (c == d) && (r == 0)
failing (watch.Bit w b) r (watch.Bit v a) = (w == v) && bit_at r a
failing (watch.Var v o) r (watch.Var u old) = (v == u) && (r == old)
failing _ _ _ = false

-- the exchange that set a bit found it clear
abbrev pub was_clear : Watch → ℕ → Bool
was_clear (watch.Bit w b) r = not (bit_at r b)
was_clear _ r = false

-- which member word of a head has the bit of the member of this index
unfoldable pub part_of : ℕ → ℕ
part_of x = x / WORD_BITS

-- whose entry has this index
unfoldable pub owner : ℕ → ℕ
owner x = x / SLOTS

-- the entry is one of this watch: a wake for the watch calls its function
abbrev pub is_for : Watch → Option Entry → Bool
is_for c None = false
is_for c (Some e) = same e.watch c

-- the entry is one of this head
abbrev pub stands_at : Option Entry → ℕ → Bool
stands_at None h = false
stands_at (Some e) h = head_of e.watch == h
