-- To be believed.
-- Whoever a poll put asleep is a waiter of the law on lost wakes by each of its two entries.
use Rattle.std.specs.Prelude.{ℕ, ◌≡◌, ◌≢◌, false, Some, List}
use Rattle.wait_model.specs.declared.steps.Step.TheVariants as step
use Rattle.wait_model.specs.{declared.watches.Entry.Entry, declared.watches.Watch.Watch, Tables.Table}
use Rattle.wait_rule.specs.{declared.journal.Item.Item, Known.Known, Queues.index, Rule.IsRuled, Says.added}
use Rattle.wait_rule.specs.{Says.history_of, Transitions.OnlyLooks}
use Rattle.wait_rule.specs.Interleavings.{AreAllowed, TaskStep, table_of}
use Rattle.wait_rule.specs.declared.journal.Item.TheVariants as item
use Rattle.order_laws.specs.SafeSleep.{SleepsSafely}
use Rattle.poll_wait.specs.{declared.turns.Poll.Poll, Polls.IsPoll, Polls.SleepsTurn}

-- The task made the sleep of a turn of this poll, whose steps before were those of the turn, and has looked at words alone
-- since.
pub record IsInTurn (p : Poll) (k : Known) : Type 0 where
  pub old : Known
  pub new : Known
  pub turn : SleepsTurn p old new
  pub looked : OnlyLooks (added turn.asked (item.Made (step.Sleep turn.sleeps.found))) k

-- How such a task is kept by its entry of this slot, so long as that stands and the task was not woken: in each table
-- that meets the rule, with the task's list, and after each step of each order of allowed steps in which it made what its
-- history says.
pub record IsKeptBy (slot : ℕ) (c : Watch) (k : Known) : Type 0 where
  pub rule : (s : Table) (items : ℕ → List Item) → IsRuled s items → items k.view.number ≡ k.view.items
      → (s.task k.view.number).runnable ≡ false → (e : Entry) → s.entry (index k.view.number slot) ≡ Some e
      → SleepsSafely s (index k.view.number slot) e c
  pub steps : (xs : List TaskStep) → AreAllowed xs → (table_of xs).history k.view.number ≡ history_of k
      → ((table_of xs).task k.view.number).state ≢ 0 → (e : Entry)
      → (table_of xs).entry (index k.view.number slot) ≡ Some e
      → SleepsSafely (table_of xs) (index k.view.number slot) e c

-- It sleeps on the first watch by the entry of slot 0, and on the second by that of slot 1.
pub record IsKeptByBoth (p : Poll) (k : Known) : Type 0 where
  pub first : IsKeptBy 0 p.first k
  pub second : IsKeptBy 1 p.second k

abbrev pub PollersAreKept : Type 0
PollersAreKept = (p : Poll) → IsPoll p → (k : Known) → IsInTurn p k → IsKeptByBoth p k
