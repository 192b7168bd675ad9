-- To be believed.
-- What stays of a task while it waits to lock a page, and what it owes in the meantime and afterwards.
use Rattle.std.specs.Prelude.{ℕ, ◌≡◌, ◌<◌, ◌==◌, Bool, true, false, Some, None}
use Rattle.wait_model.specs.{declared.layout.TheConstants.SLOTS, declared.watches.Watch.Watch}
use Rattle.wait_model.specs.{declared.watches.Entry.Entry, Watches.page}
use Rattle.wait_rule.specs.{Known.Known, Members.IsOwnKind, Queues.index}
use Rattle.wait_rule.specs.Bits.{KeepsBitOf, StaysBeside, taken_bits}
use Rattle.wait_rule.specs.Says.{AsksNoPage, Excuse, OwesBut, told_of}
use Rattle.wait_rule.specs.Stays.{with_bits, with_entry, with_page}

-- In the meantime the task is excused of its entry of this index, of asking for a page, and of this bit where the call
-- has it.
abbrev pub amid : ℕ → Watch → Bool → Excuse → Excuse
amid i c got x = with_entry i (with_page (with_bits (taken_bits c got) x))

-- What stays of a task over a part of a call that locks a page by an entry of this index: the task, its bookmark, the
-- other entries, the bits that it keeps but for this one, and what it owes. `had` and `has` are whether the call has
-- the page, by the task's own history, before the part and after it.
pub record PageKeeps (i : ℕ) (c : Watch) (had has : Bool) (old new : Known) : Type 0 where
  pub domain : new.domain ≡ old.domain
  pub number : new.view.number ≡ old.view.number
  pub mark : (told_of new).mark ≡ (told_of old).mark
  pub fewer : (w : Watch) (σ : ℕ) → (told_of old).duty.owes w σ ≡ false → (told_of new).duty.owes w σ ≡ false
  pub out : (y : ℕ) → (y == i) ≡ false → (told_of old).bits.stored y ≡ None → (told_of new).bits.stored y ≡ None
  pub stands : (slot : ℕ) → slot < SLOTS → (index old.view.number slot == i) ≡ false → (e : Entry)
      → (told_of old).bits.stored (index old.view.number slot) ≡ Some e → IsOwnKind e.kind
      → (told_of new).bits.stored (index old.view.number slot) ≡ Some e
  pub grows : has ≡ false → had ≡ false
  pub keeps : (d : Watch) → taken_bits c has d ≡ false → (told_of new).bits.keeps d ≡ (told_of old).bits.keeps d
  pub owes : (x : Excuse) → OwesBut (amid i c had x) old → OwesBut (amid i c has x) new

-- What a whole call says of the task that was to lock a page: it owes what it owed, keeps the page where it got it, and
-- else the bits that it kept. It asks for no page any more.
pub record TakesPage (old new : Known) (p : ℕ) (got : Bool) : Type 0 where
  pub stays : StaysBeside (taken_bits (page p) got) old new
  pub keeps : got ≡ true → KeepsBitOf new (page p)
  pub asks : AsksNoPage new
  pub fewer : (w : Watch) (σ : ℕ) → (told_of old).duty.owes w σ ≡ false → (told_of new).duty.owes w σ ≡ false
  pub owes : (x : Excuse) → OwesBut x old → OwesBut (with_bits (taken_bits (page p) got) x) new
