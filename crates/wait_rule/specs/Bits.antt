-- To be believed.
-- Bits that a task keeps as locks, and what stays of it while it takes them and gives them back.
use Rattle.std.specs.Prelude.{ℕ, ◌≡◌, ◌<◌, ◌&&◌, Bool, true, false, Some, None}
use Rattle.wait_model.specs.{declared.layout.TheConstants.SLOTS, declared.watches.Watch.Watch}
use Rattle.wait_model.specs.{declared.watches.Entry.Entry, Watches.page, Watches.same}
use Rattle.wait_model.specs.declared.watches.Mode.TheVariants as mode
use Rattle.wait_rule.specs.{Known.Known, Members.IsOwnKind, Queues.index}
use Rattle.wait_rule.specs.Says.{Excuse, OwesBut, told_of}
use Rattle.wait_rule.specs.Stays.{with_bit, with_bits, with_page, with_wakes}

-- its history tells that it keeps the bit: it set it, found it clear, and has not cleared it since
abbrev pub KeepsBitOf : Known → Watch → Type 0
KeepsBitOf k c = (told_of k).bits.keeps c ≡ true

-- What stays of a task over a call that may take bits, or give them back. It is the same task of the same Domain, in
-- the same state, as awake, with no head held and no ticket out as before, and the same bookmark out. Its own entries
-- stay: where none was stored, none is, and one that no other task may take off stands. It keeps the bits that it kept,
-- but for those that the call takes or gives back.
pub record StaysBeside (changes : Watch → Bool) (old new : Known) : Type 0 where
  pub domain : new.domain ≡ old.domain
  pub number : new.view.number ≡ old.view.number
  pub awake : new.book.awake ≡ old.book.awake
  pub state : new.book.state ≡ old.book.state
  pub head : new.book.head ≡ old.book.head
  pub ticket : new.book.ticket ≡ old.book.ticket
  pub hold : (told_of new).hold.head ≡ (told_of old).hold.head
  pub mark : (told_of new).mark ≡ (told_of old).mark
  pub out : (x : ℕ) → (told_of old).bits.stored x ≡ None → (told_of new).bits.stored x ≡ None
  pub stands : (slot : ℕ) → slot < SLOTS → (e : Entry)
      → (told_of old).bits.stored (index old.view.number slot) ≡ Some e → IsOwnKind e.kind
      → (told_of new).bits.stored (index old.view.number slot) ≡ Some e
  pub keeps : (d : Watch) → changes d ≡ false → (told_of new).bits.keeps d ≡ (told_of old).bits.keeps d

-- The bits that a test-and-set takes: its own where it found it clear, and else none.
abbrev pub taken_bits : Watch → Bool → Watch → Bool
taken_bits c clear d = clear && same d c

-- A test-and-set: what the task owed it owes, and where it found the bit clear it keeps the bit. It does not try it any
-- more.
pub record SetsBit (old new : Known) (c : Watch) (clear : Bool) : Type 0 where
  pub stays : StaysBeside (taken_bits c clear) old new
  pub keeps : clear ≡ true → KeepsBitOf new c
  pub tries : (told_of new).bits.pending c ≡ false
  pub duty : (told_of new).duty ≡ (told_of old).duty
  pub owes : (x : Excuse) → OwesBut x old → OwesBut (with_bits (taken_bits c clear) x) new

-- A clear: the task keeps the bit no more, and owes a wake of it, beside what it owed.
pub record ClearsBit (old new : Known) (c : Watch) : Type 0 where
  pub stays : StaysBeside (λ d. same d c) old new
  pub keeps : (told_of new).bits.keeps c ≡ false
  pub owes : (x : Excuse) → OwesBut (with_bit c x) old → OwesBut (with_wakes c mode.Normal x) new

-- It took note of a page that was taken for it: it keeps it from then on, and asks for none any more.
pub record NotesPage (old new : Known) (p : ℕ) : Type 0 where
  pub stays : StaysBeside (λ d. same d (page p)) old new
  pub duty : (told_of new).duty ≡ (told_of old).duty
  pub owes : (x : Excuse) → OwesBut (with_page x) old → OwesBut (with_bit (page p) x) new
