-- To be believed.
-- What stays of a task while it looks, holds heads, queues and wakes.
use Rattle.std.specs.Prelude.{ℕ, ◌≡◌, ◌<◌, ◌⊎◌, ◌&&◌, ◌||◌, ◌==◌, if◌then◌else◌, Bool, true, false}
use Rattle.std.specs.Prelude.{Option, Some, None}
use Rattle.wait_model.specs.{declared.layout.TheConstants.SLOTS, declared.watches.Watch.Watch}
use Rattle.wait_model.specs.{declared.watches.Entry.Entry, declared.watches.Mode.Mode, declared.tasks.Sleep.Sleep}
use Rattle.wait_model.specs.{Tasks.meets, Words.entry_of}
use Rattle.wait_model.specs.Watches.{same, mask_of, head_of}
use Rattle.wait_model.specs.declared.watches.Watch.TheVariants as watch
use Rattle.wait_model.specs.declared.watches.Mode.TheVariants as mode
use Rattle.wait_model.specs.declared.tasks.Sleep.TheVariants as sleep
use Rattle.wait_rule.specs.{Known.Known, Members.IsOwnKind, Queues.MayUnqueue, Queues.index}
use Rattle.wait_rule.specs.Tickets.{Ticket, given, no_ticket, taken}
use Rattle.wait_rule.specs.Says.{Debts, Excuse, OwesBut, TriesNone, told_of}

-- no entry word, and one
abbrev pub no_entries : ℕ → Bool
no_entries x = false

abbrev pub only : ℕ → ℕ → Bool
only x y = y == x

-- It is the same task of the same Domain in the same state, keeps the same bits, tries no bit that it did not try, and
-- has no debts that it did not have.
-- Of all entry words but these: an entry that its history had stored is stored still, or was found or taken off; an own
-- one that no other task may take off is stored still.
pub record Stays (but : ℕ → Bool) (old new : Known) : Type 0 where
  pub domain : new.domain ≡ old.domain
  pub number : new.view.number ≡ old.view.number
  pub state : new.book.state ≡ old.book.state
  pub awake : new.book.awake ≡ old.book.awake
  pub still : (x : ℕ) → but x ≡ false → ((told_of new).bits.stored x ≡ (told_of old).bits.stored x)
      ⊎ ((told_of new).bits.stored x ≡ None)
  pub stands : (slot : ℕ) → slot < SLOTS → but (index old.view.number slot) ≡ false → (e : Entry)
      → (told_of old).bits.stored (index old.view.number slot) ≡ Some e → IsOwnKind e.kind
      → (told_of new).bits.stored (index old.view.number slot) ≡ Some e
  pub keeps : (c : Watch) → (told_of new).bits.keeps c ≡ (told_of old).bits.keeps c
  pub tries_none : TriesNone (told_of old) → TriesNone (told_of new)
  pub tries : TriesNone (told_of old) → (c : Watch) → (told_of old).bits.pending c ≡ false
      → (told_of new).bits.pending c ≡ false
  pub debts : (x : Excuse) → Debts x old → Debts x new

-- who owed nothing but what it is excused of owes nothing but that
abbrev pub StaysOwing : Known → Known → Type 0
StaysOwing old new = (x : Excuse) → OwesBut x old → OwesBut x new

-- it is excused of an entry too, of wakes of a watch in the states that a mode meets, and of bits
unfoldable pub with_entry : ℕ → Excuse → Excuse
with_entry i x = record x { entries = λ y. (y == i) || x.entries y }

unfoldable pub with_wakes : Watch → Mode → Excuse → Excuse
with_wakes c m x = record x { wakes = λ d σ. x.wakes d σ || (same d c && meets (mask_of m) σ) }

-- it is excused of that it asks for a page
unfoldable pub with_page : Excuse → Excuse
with_page x = record x { asks = true }

-- it is excused of an end of a pipe too
unfoldable pub with_end : ℕ → Excuse → Excuse
with_end k x = record x { ends = λ j. (j == k) || x.ends j }

-- it is excused of that it may have left its entry at a completion
unfoldable pub with_left_entry : Excuse → Excuse
with_left_entry x = record x { left = true }

unfoldable pub with_bits : (Watch → Bool) → Excuse → Excuse
with_bits t x = record x { bits = λ d. t d || x.bits d }

abbrev pub with_bit : Watch → Excuse → Excuse
with_bit c x = with_bits (λ d. same d c) x

-- What a call changes of a task: what it owes, from an excuse before the call to one after it; which entry words,
-- and whether it looks at others; its state, and whether it is awake; the head that it holds, the ticket that it has
-- out, and the head that it took last; and of which watches it may owe wakes anew.
pub record Change : Type 0 where
  pub from : Excuse → Excuse
  pub to : Excuse → Excuse
  pub but : ℕ → Bool
  pub looks : Bool
  pub state : ℕ → ℕ
  pub awake : Bool → Bool
  pub head : Option ℕ → Option ℕ
  pub ticket : Ticket → Ticket
  pub at : ℕ → ℕ
  pub publishes : Watch → Bool

abbrev pub unchanged : Change
unchanged = record {
  from = λ x. x;
  to = λ x. x;
  but = no_entries;
  looks = false;
  state = λ σ. σ;
  awake = λ a. a;
  head = λ h. h;
  ticket = λ t. t;
  at = λ h. h;
  publishes = λ c. false;
}

-- the changes of the calls: a stored state, a lock and an unlock of a head, looks, an own entry that is queued, an
-- entry that is taken off, a condition that is published, and a wake of all who wait for a watch in the states that a
-- mode meets
abbrev pub state_change : ℕ → Change
state_change σ = record unchanged { state = λ _. σ }

abbrev pub lock_change : ℕ → Change
lock_change h = record unchanged { head = λ _. Some h; ticket = λ _. taken h; at = λ _. h }

abbrev pub unlock_change : Change
unlock_change = record unchanged { head = λ _. None; ticket = λ _. no_ticket }

abbrev pub only_looks : Change
only_looks = record unchanged { looks = true }

abbrev pub queue_change : ℕ → Change
queue_change i = record unchanged { to = with_entry i; but = only i; looks = true }

-- at a completion: the task may leave it there
abbrev pub queue_cell_change : ℕ → Change
queue_cell_change i = record unchanged { to = λ x. with_left_entry (with_entry i x); but = only i; looks = true }

abbrev pub take_off_change : ℕ → Change
take_off_change i = record unchanged { from = with_entry i; but = only i }

abbrev pub publish_change : Watch → Change
publish_change c = record unchanged { to = with_wakes c mode.Normal; publishes = λ d. same d c }

abbrev pub wake_all_change : Watch → Mode → ℕ → Change
wake_all_change c m h = record unchanged {
  from = with_wakes c m;
  looks = true;
  head = λ _. None;
  ticket = λ _. no_ticket;
  at = λ _. h;
}

-- a claim of an end of a pipe, and an end that is closed, whose number is that of its variable
abbrev pub claim_change : ℕ → Bool → Change
claim_change k got = record unchanged { to = if got then with_end k else λ x. x }

abbrev pub close_change : ℕ → Change
close_change k = record unchanged {
  from = with_end k;
  to = with_wakes (watch.Var k 0) mode.Normal;
  publishes = λ d. same d (watch.Var k 0);
}

-- The changes of single steps. A sleep, by its answer; a look at the own word, by whether the task was awake before, and
-- whether the word is runnable; a step on the ticket that is out; an unlock whose serve is still to come; and a store of
-- an own entry word, with no look: of an entry at a completion, of one for a page, and of another one.
abbrev pub sleep_change : Sleep → Change
sleep_change sleep.Asleep = record unchanged { awake = λ _. false }
sleep_change sleep.Stay = state_change 0
sleep_change sleep.Signal = state_change 0

abbrev pub rise_change : Bool → Bool → Change
rise_change false true = record unchanged { state = λ _. 0; awake = λ _. true }
rise_change _ _ = unchanged

abbrev pub ticket_change : (Ticket → Ticket) → Change
ticket_change t = record unchanged { ticket = t }

abbrev pub give_change : ℕ → Change
give_change h = record unchanged { head = λ _. None; ticket = λ _. given h }

abbrev pub put_change : ℕ → Change
put_change i = record unchanged { to = with_entry i; but = only i }

abbrev pub put_cell_change : ℕ → Change
put_cell_change i = record unchanged { to = λ x. with_left_entry (with_entry i x); but = only i }

abbrev pub put_page_change : ℕ → Change
put_page_change i = record unchanged { to = λ x. with_page (with_entry i x); but = only i }

-- What stays of a task over a call that changes no more than this. It is the same task of the same Domain, with the
-- same bookmark out. It owes no wake that it did not owe, of any watch and state, but of what it published.
-- What it had stored of an entry word stays, where the call looks at none; an own entry that no other task may take off
-- stands in any case, and where none was stored, none is. It keeps the bits that it kept, but for what it published.
-- What it owes is carried on for each excuse.
pub record Carries (c : Change) (old new : Known) : Type 0 where
  pub domain : new.domain ≡ old.domain
  pub number : new.view.number ≡ old.view.number
  pub awake : new.book.awake ≡ c.awake old.book.awake
  pub state : new.book.state ≡ c.state old.book.state
  pub head : new.book.head ≡ c.head old.book.head
  pub ticket : new.book.ticket ≡ c.ticket old.book.ticket
  pub hold : (told_of new).hold.head ≡ c.head (told_of old).hold.head
  pub at : new.at ≡ c.at old.at
  pub mark : (told_of new).mark ≡ (told_of old).mark
  pub fewer : (w : Watch) (σ : ℕ) → c.publishes w ≡ false → (told_of old).duty.owes w σ ≡ false
      → (told_of new).duty.owes w σ ≡ false
  pub stored : (x : ℕ) → c.looks ≡ false → c.but x ≡ false
      → (told_of new).bits.stored x ≡ (told_of old).bits.stored x
  pub out : (x : ℕ) → c.but x ≡ false → (told_of old).bits.stored x ≡ None → (told_of new).bits.stored x ≡ None
  pub stands : (slot : ℕ) → slot < SLOTS → c.but (index old.view.number slot) ≡ false → (e : Entry)
      → (told_of old).bits.stored (index old.view.number slot) ≡ Some e → IsOwnKind e.kind
      → (told_of new).bits.stored (index old.view.number slot) ≡ Some e
  pub keeps : (d : Watch) → c.publishes d ≡ false → (told_of new).bits.keeps d ≡ (told_of old).bits.keeps d
  pub owes : (x : Excuse) → OwesBut (c.from x) old → OwesBut (c.to x) new

-- the head of a stored entry, and whether a word shows an entry
abbrev pub head_stored : Option Entry → Option ℕ
head_stored None = None
head_stored (Some e) = Some (head_of e.watch)

abbrev pub is_on : Option Entry → Bool
is_on None = false
is_on (Some e) = true

-- What a load of an entry word tells: an own entry of the head that the task holds may be taken off where the word
-- shows it, and one that was found off is owed no more.
pub record FindsOwnWord (old new : Known) (who slot w : ℕ) : Type 0 where
  pub may : who ≡ old.view.number → slot < SLOTS → (told_of old).hold.head ≡ Some old.at → old.book.head ≡ Some old.at
      → head_stored ((told_of old).bits.stored (index who slot)) ≡ Some old.at → is_on (entry_of w) ≡ true
      → MayUnqueue new who slot
  pub gone : entry_of w ≡ None → (told_of new).bits.stored (index who slot) ≡ None
  pub off : entry_of w ≡ None → (x : Excuse) → OwesBut (with_entry (index who slot) x) old → OwesBut x new
