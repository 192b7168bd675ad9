-- For proofs alone.
-- The steps of the second entry in a hold of its head: the look at it, the add and the removal.
use Rattle.std.specs.Prelude.{ℕ, ◌≡◌, Bool, true, false, is_some, Option, Some, None, Result, Ok, Err}
use Rattle.wait_model.specs.{declared.points.Point.Point, declared.watches.Entry.Entry, declared.watches.Watch.Watch}
use Rattle.wait_model.specs.{Watches.head_of, Watches.kind_for, Words.entry_of}
use Rattle.wait_model.specs.declared.points.Point.TheVariants as at
use Rattle.wait_model.specs.declared.points.PreparePoint.TheVariants as preparing
use Rattle.wait_model.specs.declared.points.Next.TheVariants as next
use Rattle.wait_model.specs.declared.queues.Form.TheVariants as forms
use Rattle.wait_rule.specs.declared.journal.Item.TheVariants as item
use Rattle.wait_rule.specs.{Ends.WasWorn, Known.Known, Members.IsEntryWord, Says.added, Says.told_of, Shown.shown_queue}
use Rattle.wait_rule.specs.{Stays.Carries, Stays.only_looks}
use Rattle.wait_rule.specs.Queues.{IsWholeBook, KnewEntry, saw}
use Rattle.wait_rule.specs.Transitions.{IsSeenAs, OnlyLooks, is_worn}
use Rattle.wq_head.specs.{declared.adds.Worn.Worn, Adds.HasRemoved}
use Rattle.wait_class.specs.Posts.{Runs}
use Rattle.wait_event.specs.{PartSteps.part_change, Prepares.IsPart}
use Rattle.poll_wait.specs.Seconds.{join_program, second_of}

-- the task loaded the own entry word of slot 1, and it shows this
pub record HasSeenSecond (old new : Known) (o : Option Entry) : Type 0 where
  pub word : ℕ
  pub is : new ≡ added old (item.Made (saw old.book.head (second_of old) word))
  pub lawful : IsEntryWord (second_of old) word
  pub knew : KnewEntry old (second_of old) word
  pub reads : o ≡ entry_of word
  pub carries : Carries only_looks old new

-- that entry stands at the head that is held, where the history has stored it
abbrev pub IsSecondAtHead : Known → Type 0
IsSecondAtHead k = (e : Entry) → (told_of k).bits.stored (second_of k) ≡ Some e → head_of e.watch ≡ k.at

-- what a step in the hold changes: that entry
abbrev pub SecondCarries : Known → Known → Type 0
SecondCarries old new = Carries (part_change (second_of old) (λ σ. σ)) old new

-- it was looked at, and taken off where it is queued
abbrev pub TakesSecond : Bool → Known → Known → Type 0
TakesSecond true seen new = HasRemoved seen new seen.view.number 1
TakesSecond false seen new = new ≡ seen

pub record ParesSecond (old new : Known) (found : Bool) : Type 0 where
  pub seen : Known
  pub entry : Option Entry
  pub looked : HasSeenSecond old seen entry
  pub is_found : found ≡ is_some entry
  pub takes : TakesSecond found seen new

-- It was queued, or was queued still, as the hold shows: then its head is given back at the same point.
abbrev pub joined_at : Bool → Point
joined_at true = at.Prepare preparing.Queue
joined_at false = at.Prepare preparing.Unlock

pub record HasJoinedHeld (w : Watch) (old new : Known) : Type 0 where
  pub still : Bool
  pub runs : Runs (join_program old.view.number w) old new (next.Go (at.Prepare preparing.Queue))
      (next.Go (joined_at still))
  pub carries : SecondCarries old new
  pub entry : Entry
  pub queued : (told_of new).bits.stored (second_of old) ≡ Some entry
  pub shows : still ≡ true → IsSeenAs ((told_of new).hold.book (second_of old)) (Some entry)
  pub home : IsPart w (kind_for w) (Some entry)

-- no place is left for it, as the hold shows
pub record HasNoPlace (w : Watch) (old new : Known) (e : Worn) : Type 0 where
  pub looks : OnlyLooks old new
  pub carries : SecondCarries old new
  pub out : (told_of new).bits.stored (second_of old) ≡ None
  pub shows : IsSeenAs ((told_of new).hold.book (second_of old)) None
  pub whole : IsWholeBook new
  pub worn : is_worn forms.Front (shown_queue new) ≡ true
  pub head : e.head ≡ old.at
  pub noted : WasWorn new.view.number new.view.items e.head e.place

abbrev pub JoinsHeld : Watch → Known → Known → Result (Unit {0}) Worn → Type 0
JoinsHeld w old new (Ok u) = HasJoinedHeld w old new
JoinsHeld w old new (Err e) = HasNoPlace w old new e
