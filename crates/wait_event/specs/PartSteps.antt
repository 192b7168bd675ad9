-- For proofs alone.
-- The steps of a prepare and a finish in their hold: the look for a signal, the add, and the removal.
use Rattle.std.specs.Prelude.{ℕ, ◌≡◌, ◌&&◌, Bool, true, false, if◌then◌else◌, is_some, Option, Some, None, Result, Ok, Err}
use Rattle.wait_model.specs.{declared.points.Point.Point, declared.watches.Entry.Entry, Watches.head_of}
use Rattle.wait_model.specs.Tasks.{looks_in, pending, state_mask, task_of}
use Rattle.wait_model.specs.declared.points.Point.TheVariants as at
use Rattle.wait_model.specs.declared.points.PreparePoint.TheVariants as preparing
use Rattle.wait_model.specs.declared.points.LeavePoint.TheVariants as leaving
use Rattle.wait_model.specs.declared.points.Next.TheVariants as next
use Rattle.wait_model.specs.declared.steps.Step.TheVariants as step
use Rattle.wait_rule.specs.declared.journal.Item.TheVariants as item
use Rattle.wait_rule.specs.{Ends.WasWorn, Known.Known, Queues.IsWholeBook, Asked.nothing_asked, Shown.shown_queue}
use Rattle.wait_rule.specs.Says.{added, asks_for, told_of}
use Rattle.wait_rule.specs.Stays.{Carries, Change, only, unchanged, with_entry}
use Rattle.wait_rule.specs.Transitions.{IsSeenAs, OnlyLooks, Program, is_worn}
use Rattle.wq_head.specs.{declared.adds.Worn.Worn, Adds.HasRemoved}
use Rattle.wait_class.specs.Posts.{HasSeenOwn, Runs, own_of}
use Rattle.wait_class.specs.Queueing.{wait_form}
use Rattle.wait_event.specs.{Waits.queues_first, declared.prepares.Part.Part}
use Rattle.wait_event.specs.Prepares.{IsPart, answers_first, prepare_program}

abbrev pub program_of : Part → ℕ → Program
program_of p me = prepare_program p.asks me p.watch p.kind p.how

-- what a step in the hold changes: the own entry, and the state
abbrev pub part_change : ℕ → (ℕ → ℕ) → Change
part_change i state = record unchanged {
  from = with_entry i;
  to = with_entry i;
  but = only i;
  looks = true;
  state = state;
}

abbrev pub PartCarries : (ℕ → ℕ) → Known → Known → Type 0
PartCarries state old new = Carries (part_change (own_of old) state) old new

-- behind the lock, and behind a look for a signal
abbrev pub asks_one : Part → Bool
asks_one p = p.asks && looks_in p.how.state

abbrev pub locked_to : Part → Point
locked_to p = at.Prepare (if asks_one p then preparing.Look else preparing.Queue)

abbrev pub part_looked_to : Bool → Point
part_looked_to hit = if hit then at.Leave leaving.Queue else at.Prepare preparing.Queue

pub record FoundPartSignal (p : Part) (old new : Known) : Type 0 where
  pub asks : p.asks ≡ true
  pub word : ℕ
  pub pends : pending (state_mask p.how.state) (task_of word) ≡ true
  pub is : new ≡ added old (item.Made (step.Look word))

pub record Heeds (p : Part) (old new : Known) (hit : Bool) : Type 0 where
  pub runs : Runs (program_of p old.view.number) old new (next.Go (locked_to p)) (next.Go (part_looked_to hit))
  pub quiet : queues_first runs.transitions ≡ false
  pub carries : Carries unchanged old new
  pub asks : asks_for old ≡ nothing_asked → asks_for new ≡ nothing_asked
  pub found : hit ≡ true → FoundPartSignal p old new

-- the own entry stands at the head that is held, where the history has stored it
abbrev pub IsAtHead : Known → Type 0
IsAtHead k = (e : Entry) → (told_of k).bits.stored (own_of k) ≡ Some e → head_of e.watch ≡ k.at

-- it was looked at, and taken off where it is queued
abbrev pub TakesEntryOff : Bool → Known → Known → Type 0
TakesEntryOff true seen new = HasRemoved seen new seen.view.number 0
TakesEntryOff false seen new = new ≡ seen

pub record ParesPart (old new : Known) (found : Bool) : Type 0 where
  pub seen : Known
  pub entry : Option Entry
  pub looked : HasSeenOwn old seen entry
  pub is_found : found ≡ is_some entry
  pub takes : TakesEntryOff found seen new

-- it was queued, or was queued still, and the state stored
pub record HasJoinedPart (p : Part) (old new : Known) (first : Bool) : Type 0 where
  pub runs : Runs (program_of p old.view.number) old new (next.Go (at.Prepare preparing.Queue))
      (next.Go (at.Prepare preparing.Unlock))
  pub carries : PartCarries (λ _. state_mask p.how.state) old new
  pub entry : Entry
  pub queued : (told_of new).bits.stored (own_of old) ≡ Some entry
  pub home : IsPart p.watch p.kind (Some entry)
  pub tells : first ≡ (queues_first runs.transitions && answers_first p)

-- no place is left for it, as the hold shows
pub record IsWornPart (p : Part) (old new : Known) (w : Worn) : Type 0 where
  pub looks : OnlyLooks old new
  pub carries : PartCarries (λ σ. σ) old new
  pub out : (told_of new).bits.stored (own_of old) ≡ None
  pub shows : IsSeenAs ((told_of new).hold.book (own_of old)) None
  pub whole : IsWholeBook new
  pub worn : is_worn (wait_form p.how) (shown_queue new) ≡ true
  pub head : w.head ≡ old.at
  pub noted : WasWorn new.view.number new.view.items w.head w.place

abbrev pub JoinsPart : Part → Known → Known → Result Bool Worn → Type 0
JoinsPart p old new (Ok first) = HasJoinedPart p old new first
JoinsPart p old new (Err w) = IsWornPart p old new w

-- the answer of a prepare that found no signal
abbrev pub unsignalled : Result Bool Worn → Result (Option Bool) Worn
unsignalled (Ok first) = Ok (Some first)
unsignalled (Err w) = Err w
