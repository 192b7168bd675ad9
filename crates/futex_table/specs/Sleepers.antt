-- To be believed.
-- Who sleeps on a futex queued its entry in a hold in which it had loaded the expected value.
use Rattle.std.specs.Prelude.{ℕ, ◌≡◌, List}
use Rattle.wait_model.specs.{declared.steps.Step.Step, Tables.Table}
use Rattle.wait_rule.specs.{declared.journal.Item.Item, Known.Known, Queues.index, Rule.IsRuled, Says.history_of}
use Rattle.wait_class.specs.{declared.stages.Run.Run, Tables.Advances, Tables.IsAsleepAt}
use Rattle.wait_class.specs.declared.stages.Turn.TheVariants as turn
use Rattle.futex_table.specs.{declared.waits.FutexStage.FutexStage, declared.waits.FutexWait.FutexWait}
use Rattle.futex_table.specs.FutexTables.{QueuedByValue, futex_table, slept_steps}

-- The last steps of a history: in one hold of the futex's head the word was loaded, with the expected value, entry x was
-- queued, and the state stored; the head was given back; and the task slept.
pub record SleepsByValue (es : List Step) (x : ℕ) (r : FutexWait) : Type 0 where
  pub found : ℕ
  pub queued : QueuedByValue es x r.futex r.expected (slept_steps r found)

-- So it is of each task that a wait has put asleep, by its own history, whether the wait goes on by stretches or as a
-- whole call.
abbrev pub SleepersQueuedByValue : Type 0
SleepersQueuedByValue = (k : Known) (r : Run FutexWait) (s : FutexStage) → IsAsleepAt futex_table k r s
    → SleepsByValue (history_of k) (index k.view.number 0) r.of

-- in each table that meets the rule of a Domain, with the task's list
abbrev pub RuleQueuedByValue : Type 0
RuleQueuedByValue = (k : Known) (r : Run FutexWait) (s : FutexStage) → IsAsleepAt futex_table k r s → (t : Table)
    (items : ℕ → List Item) → IsRuled t items → items k.view.number ≡ k.view.items
    → SleepsByValue (t.history k.view.number) (index k.view.number 0) r.of

-- A wait by stretches comes to its sleep by them alone: the turns of `stretch` that answer Asleep say it.
abbrev pub StretchesQueuedByValue : Type 0
StretchesQueuedByValue = (old new : Known) (r q : Run FutexWait) (s place : FutexStage)
    → Advances futex_table old new r q s (turn.Asleep place)
    → SleepsByValue (history_of new) (index new.view.number 0) q.of
