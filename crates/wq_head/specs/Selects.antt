-- To be believed.
-- What selections from a simple head say.
use Rattle.std.specs.Prelude.{ℕ, zero, suc, ◌≡◌, ◌≢◌, ◌<◌, ◌≤◌, ◌⊎◌, Some}
use Rattle.wait_model.specs.{declared.layout.TheConstants.FIRST_SIMPLE_HEAD, declared.layout.TheConstants.ENTRIES}
use Rattle.wait_model.specs.{declared.watches.Entry.Entry, declared.watches.Aim.Aim, declared.watches.Watch.Watch}
use Rattle.wait_model.specs.{declared.queues.Member.Member, Queues.entry_from, Tasks.IsLawfulWord, Views.Walk}
use Rattle.wait_model.specs.{Watches.mask_of, Watches.owner}
use Rattle.wait_model.specs.declared.watches.Mode.TheVariants as mode
use Rattle.wait_model.specs.declared.steps.Step.TheVariants as step
use Rattle.wait_rule.specs.declared.journal.Item.TheVariants as item
use Rattle.wait_rule.specs.{Known.Known, Shown.shown_entry, Shown.shown_queue, Stays.Stays, Stays.no_entries}
use Rattle.wait_rule.specs.Queues.{IsAgreed, IsWholeBook, simple_watch}
use Rattle.wait_rule.specs.Says.{added, noted, stored_with, told_of}
use Rattle.wq_head.specs.{Looks.Looks, Walking.IsUnder}

-- the walk that a hold of a simple head is part of: wakes with NORMAL for the head's own watch
abbrev pub simple_aim : ℕ → Aim
simple_aim h = record { watch = simple_watch h; mode = mode.Normal; count = 0 }

-- The task's hold is one of a simple head, and its walk the one that the lock of such a head begins.
pub record IsSimpleHold (k : Known) : Type 0 where
  pub simple : FIRST_SIMPLE_HEAD ≤ k.at
  pub walk : Walk
  pub under : IsUnder (simple_aim k.at) (told_of k) walk

-- The hold goes on: the task, its entries and bookmark, what it owes, and its walk are as before.
pub record KeepsHold (old new : Known) : Type 0 where
  pub stays : Stays no_entries old new
  pub owes : (c : Watch) (σ : ℕ) → (told_of new).duty.owes c σ ≡ (told_of old).duty.owes c σ
  pub mark : (told_of new).mark ≡ (told_of old).mark
  pub own : (noted new).own ≡ (noted old).own
  pub walk : (told_of new).walk ≡ (told_of old).walk
  pub hold : (told_of new).hold.head ≡ (told_of old).hold.head
  pub head : new.book.head ≡ old.book.head
  pub ticket : new.book.ticket ≡ old.book.ticket
  pub agreed : IsAgreed old → IsAgreed new
  pub at : new.at ≡ old.at

-- the hold shows no entry of its head
abbrev pub ShowsNoEntry : Known → Type 0
ShowsNoEntry k = (x : ℕ) (e : Entry) → x < ENTRIES → shown_entry k x ≡ Some e → ⊥

-- The task looked at words, and selected the first entry of the queue that its hold shows: it woke the entry's task
-- with NORMAL, and took the entry off, whatever the wake found.
pub record SelectsFirst (old new : Known) : Type 0 where
  pub seen : Known
  pub looks : Looks old seen
  pub whole : IsWholeBook seen
  pub member : Member
  pub first : entry_from 0 (shown_queue seen) ≡ Some member
  pub found : ℕ
  pub lawful : IsLawfulWord found
  pub is : new ≡ stored_with (added seen (item.Made (step.Wake (owner member.at) (mask_of mode.Normal) found)))
      (step.Unqueue member.at)

-- so many entries were selected, one after another
abbrev pub SelectsMany : Known → ℕ → Known → Type 0
SelectsMany old zero new = new ≡ old
SelectsMany old (suc n) new = (mid : Known) × SelectsMany old n mid × SelectsFirst mid new

-- as many as were asked for, or all that there were; 0 asks for all
abbrev pub EndsSelection : Known → ℕ → ℕ → Type 0
EndsSelection k most n = ((most ≢ 0) × (n ≡ most)) ⊎ (ShowsNoEntry k × (most ≢ 0 → n < most))

-- The task looked at the members of the head that it holds, and selected so many of its entries.
pub record HasSelected (old new : Known) (most n : ℕ) : Type 0 where
  pub seen : Known
  pub looks : Looks old seen
  pub selects : SelectsMany seen n new
  pub whole : IsWholeBook new
  pub ends : EndsSelection new most n
