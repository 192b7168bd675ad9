-- To be believed.
-- Whoever a call that waits has put asleep is a waiter of the law on lost wakes: it sleeps on the watch of its
-- call, and where that is set its wakeup is not lost.
use Rattle.std.specs.Prelude.{ℕ, ◌≡◌, ◌≢◌, true, false, None, Some, List}
use Rattle.wait_model.specs.{declared.calls.Call.Call, declared.points.Point.Point, declared.watches.Entry.Entry}
use Rattle.wait_model.specs.{Calls.call_watch, Calls.program_start, Tables.Table, Findings.is_waiting}
use Rattle.wait_model.specs.declared.calls.Call.TheVariants as calls
use Rattle.wait_model.specs.declared.points.BitPoint.TheVariants as biting
use Rattle.wait_model.specs.declared.points.Next.TheVariants as next
use Rattle.wait_model.specs.declared.points.PagePoint.TheVariants as paging
use Rattle.wait_model.specs.declared.points.Point.TheVariants as at
use Rattle.wait_rule.specs.{declared.journal.Item.Item, Known.Known, Queues.index, Rule.IsRuled}
use Rattle.wait_rule.specs.Interleavings.{AreAllowed, TaskStep, table_of}
use Rattle.wait_rule.specs.Says.{IsUp, history_of, told_of}
use Rattle.wait_rule.specs.Transitions.{Goes, IsTransition, OnlyLooks, Transition, after_transition, call_program}
use Rattle.order_laws.specs.SafeSleep.{SleepsSafely}

-- where a call that waits sleeps
abbrev pub sleep_point : Call → Point
sleep_point (calls.WaitBit w b st) = at.Bit biting.Sleep
sleep_point (calls.LockBit w b st) = at.Bit biting.Sleep
sleep_point (calls.LockPage w st) = at.Page paging.Sleep
sleep_point _ = at.Sleep

-- The task began the call awake and with its entry off, went through it up to its sleep, and made that; since then
-- it has looked at words alone. So its last event is the sleep.
pub record EndsAsleep (call : Call) (old new : Known) : Type 0 where
  pub up : IsUp old
  pub out : (told_of old).bits.stored (index old.view.number 0) ≡ None
  pub before : List Transition
  pub came : Known
  pub comes : Goes (call_program old.view.number 0 call) old (next.Go (program_start call)) before came
      (next.Go (sleep_point call))
  pub sleep : Transition
  pub sleeps : IsTransition (call_program old.view.number 0 call) (sleep_point call) came sleep
  pub looked : OnlyLooks (after_transition sleep) new

-- How such a task is kept, so long as its entry stands and it was not woken: in each table that meets the rule,
-- with the task's list, and after each step of each order of allowed steps in which it made what its history says.
pub record IsKept (call : Call) (old new : Known) : Type 0 where
  pub rule : (s : Table) (items : ℕ → List Item) → IsRuled s items → items old.view.number ≡ new.view.items
      → (s.task old.view.number).runnable ≡ false → (e : Entry) → s.entry (index old.view.number 0) ≡ Some e
      → SleepsSafely s (index old.view.number 0) e (call_watch call)
  pub steps : (xs : List TaskStep) → AreAllowed xs → (table_of xs).history old.view.number ≡ history_of new
      → ((table_of xs).task old.view.number).state ≢ 0 → (e : Entry)
      → (table_of xs).entry (index old.view.number 0) ≡ Some e
      → SleepsSafely (table_of xs) (index old.view.number 0) e (call_watch call)

-- So is whoever a call that waits for a watch put asleep.
abbrev pub SleepersAreKept : Type 0
SleepersAreKept = (call : Call) → is_waiting call ≡ true → (old new : Known) → EndsAsleep call old new
    → IsKept call old new
