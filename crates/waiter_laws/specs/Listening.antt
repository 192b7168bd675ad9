-- To be believed.
-- Whoever a wait for a flag has put asleep sleeps on each watch that it tested since its flag was cleared.
use Rattle.std.specs.Prelude.{ℕ, ◌≡◌, ◌<◌, true, false, Some, List}
use Rattle.wait_model.specs.{declared.layout.TheConstants.SLOTS, declared.tasks.SleepState.SleepState}
use Rattle.wait_model.specs.{declared.watches.Entry.Entry, declared.watches.Watch.Watch, Readings.HasTestedUnheard}
use Rattle.wait_model.specs.{Tables.Table, Watches.same}
use Rattle.wait_model.specs.declared.calls.Call.TheVariants as calls
use Rattle.wait_model.specs.declared.points.Next.TheVariants as next
use Rattle.wait_model.specs.declared.points.Point.TheVariants as at
use Rattle.wait_model.specs.declared.points.WokenPoint.TheVariants as hearing
use Rattle.wait_model.specs.declared.watches.Kind.TheVariants as kind
use Rattle.wait_rule.specs.{declared.journal.Item.Item, Known.Known, Queues.index, Rule.IsRuled, Says.history_of}
use Rattle.wait_rule.specs.Says.{told_of}
use Rattle.wait_rule.specs.Transitions.{Goes, IsTransition, OnlyLooks, Transition, after_transition, call_program}
use Rattle.wait_event.specs.{declared.woken_waits.WokenStage.WokenStage, declared.woken_waits.WokenTurn.WokenTurn}
use Rattle.wait_event.specs.WokenWaits.{Hears}
use Rattle.wait_event.specs.declared.woken_waits.WokenStage.TheVariants as stage
use Rattle.wait_event.specs.declared.woken_waits.WokenTurn.TheVariants as turn
use Rattle.order_laws.specs.SafeSleep.{SleepsSafely}

-- The task went through the wait up to its sleep, and made that; since then it has looked at words alone.
pub record EndsListening (slot : ℕ) (st : SleepState) (old new : Known) : Type 0 where
  pub before : List Transition
  pub came : Known
  pub comes : Goes (call_program old.view.number slot (calls.Woken st)) old (next.Go (at.Woken hearing.State)) before
      came (next.Go (at.Woken hearing.Sleep))
  pub sleep : Transition
  pub sleeps : IsTransition (call_program old.view.number slot (calls.Woken st)) (at.Woken hearing.Sleep) came sleep
  pub looked : OnlyLooks (after_transition sleep) new

-- In each table that meets the rule, with the list of such a task that was not woken, it sleeps on the watch, if its
-- entry is one of kind Woken for that: by its own list, since no other task takes such an entry off. It tested the watch
-- before the call (`HasTestedUnheard`), which is for the caller to do.
abbrev pub ListenersAreKept : Type 0
ListenersAreKept = (slot : ℕ) (st : SleepState) (old new : Known) (e : Entry) (c : Watch) → slot < SLOTS
    → EndsListening slot st old new → HasTestedUnheard (history_of old) (index old.view.number slot) c
    → (told_of new).bits.stored (index old.view.number slot) ≡ Some e → e.kind ≡ kind.Woken → same c e.watch ≡ true
    → (s : Table) (items : ℕ → List Item) → IsRuled s items → items old.view.number ≡ new.view.items
    → (s.task old.view.number).runnable ≡ false → SleepsSafely s (index old.view.number slot) e c

-- The same of one that goes on by stretches: they came from the beginning of the wait to its sleep, and the last one put
-- the task asleep.
pub record StretchesListen (st : SleepState) (old new : Known) : Type 0 where
  pub mid : Known
  pub came : Hears old mid st stage.State (turn.Again stage.Sleep)
  pub slept : Hears mid new st stage.Sleep turn.Asleep

-- Then the task has made what it makes where the whole call puts it asleep, so that it is kept as one that did.
abbrev pub StretchesEndListening : Type 0
StretchesEndListening = (st : SleepState) (old new : Known) → StretchesListen st old new → EndsListening 0 st old new

-- Stretches one after another are one.
abbrev pub HearingsAreOne : Type 0
HearingsAreOne = (old mid new : Known) (st : SleepState) (s n : WokenStage) (u : WokenTurn)
    → Hears old mid st s (turn.Again n) → Hears mid new st n u → Hears old new st s u
