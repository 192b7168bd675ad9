-- To be believed.
-- Orders of steps in which entries of others are taken off only of who was woken: there a task that is asleep in a call
-- has its entry queued.
use Rattle.std.specs.Prelude.{◌≡◌, ◌≢◌, true, false, Some, List}
use Rattle.wait_model.specs.{declared.calls.Call.Call, declared.watches.Entry.Entry, Calls.call_watch}
use Rattle.wait_model.specs.{Selections.is_page_lock, Findings.is_waiting}
use Rattle.wait_rule.specs.{Known.Known, Queues.index, Says.history_of}
use Rattle.wait_rule.specs.Interleavings.{AreAllowed, TaskStep, table_of}
use Rattle.order_laws.specs.{SafeSleep.SleepsSafely, TakenOff.AllTakeOffWoken}
use Rattle.waiter_laws.specs.Asleep.{EndsAsleep}

-- After each step of each such order of allowed steps the entry of a task stands that a call has put asleep and
-- that was not woken; so the task is safe. A wait for a page, which stores its state in no hold, is left out.
abbrev pub SleepersAreQueued : Type 0
SleepersAreQueued = (xs : List TaskStep) → AreAllowed xs → AllTakeOffWoken xs → (call : Call) → is_waiting call ≡ true
    → is_page_lock call ≡ false → (old new : Known) → EndsAsleep call old new
    → (table_of xs).history old.view.number ≡ history_of new → ((table_of xs).task old.view.number).state ≢ 0
    → (e : Entry) × ((table_of xs).entry (index old.view.number 0) ≡ Some e)
    × SleepsSafely (table_of xs) (index old.view.number 0) e (call_watch call)
