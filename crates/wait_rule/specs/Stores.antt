-- To be believed.
-- What a task carries on over a store of an own word in a hold: of an entry, or of its bookmark. The member bit that is
-- still to be stored then is no debt: the lock can't be given back before.
use Rattle.std.specs.Prelude.{ℕ, ◌≡◌, ◌≢◌, ◌<◌, true, false, Option, Some, None}
use Rattle.wait_model.specs.{declared.layout.TheConstants.FIRST_DONE_HEAD, declared.watches.Watch.Watch}
use Rattle.wait_model.specs.{declared.watches.Entry.Entry, declared.queues.Mark.Mark, Views.is_trying_for}
use Rattle.wait_model.specs.{Watches.head_of, Watches.is_page}
use Rattle.wait_rule.specs.Known.{Known}
use Rattle.wait_rule.specs.Says.{Debts, Excuse, told_of}
use Rattle.wait_rule.specs.Stays.{Carries, put_cell_change, put_change, put_page_change}

-- What stays over such a store of whatever word: all but the word itself.
pub record StaysOver (old new : Known) : Type 0 where
  pub domain : new.domain ≡ old.domain
  pub number : new.view.number ≡ old.view.number
  pub awake : new.book.awake ≡ old.book.awake
  pub state : new.book.state ≡ old.book.state
  pub head : new.book.head ≡ old.book.head
  pub ticket : new.book.ticket ≡ old.book.ticket
  pub hold : (told_of new).hold.head ≡ (told_of old).hold.head
  pub at : new.at ≡ old.at
  pub duty : (told_of new).duty ≡ (told_of old).duty
  pub keeps : (told_of new).bits.keeps ≡ (told_of old).bits.keeps
  pub tries : (told_of new).bits.pending ≡ (told_of old).bits.pending

-- by such an entry its task tries no bit
abbrev pub TriesNoBit : Entry → Type 0
TriesNoBit e = (c : Watch) → is_trying_for (Some e) c ≡ false

-- An own entry was stored as the one of index i. What the task owes then goes by the entry: that entry; at a completion,
-- that it may leave it there; and for a page, that it asks for it. Of one by which it tries a bit no `Carries` holds: so
-- long as it is stored, the task is none that tries no bit.
pub record StoresEntry (i : ℕ) (e : Entry) (old new : Known) : Type 0 where
  pub stays : StaysOver old new
  pub mark : (told_of new).mark ≡ (told_of old).mark
  pub queued : (told_of new).bits.stored i ≡ Some e
  pub others : (x : ℕ) → x ≢ i → (told_of new).bits.stored x ≡ (told_of old).bits.stored x
  pub debts : is_page e.kind ≡ false → head_of e.watch < FIRST_DONE_HEAD → (x : Excuse) → Debts x old → Debts x new
  pub carries : is_page e.kind ≡ false → head_of e.watch < FIRST_DONE_HEAD → TriesNoBit e
      → Carries (put_change i) old new
  pub cell : is_page e.kind ≡ false → TriesNoBit e → Carries (put_cell_change i) old new
  pub page : is_page e.kind ≡ true → head_of e.watch < FIRST_DONE_HEAD → Carries (put_page_change i) old new

-- the place of a bookmark
abbrev pub place_of_mark : Option Mark → Option ℕ
place_of_mark None = None
place_of_mark (Some m) = Some m.place

-- The own bookmark was stored, or taken out. So long as one is out no excuse covers it, and no `Carries` holds.
pub record StoresMark (o : Option Mark) (old new : Known) : Type 0 where
  pub stays : StaysOver old new
  pub mark : (told_of new).mark ≡ place_of_mark o
  pub stored : (told_of new).bits.stored ≡ (told_of old).bits.stored
  pub debts : (x : Excuse) → Debts x old → Debts x new
