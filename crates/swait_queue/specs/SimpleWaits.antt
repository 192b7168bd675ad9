-- To be believed.
-- Waits in simple queues.
use Rattle.std.specs.Prelude.{ℕ, ◌≡◌, ◌<◌, ◌≤◌, Bool, true, Result}
use Rattle.wait_model.specs.{declared.layout.TheConstants.FIRST_SIMPLE, declared.layout.TheConstants.PLAIN_CONDITIONS}
use Rattle.wait_model.specs.{declared.tasks.How.How, declared.tasks.SleepState.SleepState}
use Rattle.wait_model.specs.declared.calls.Call.TheVariants as calls
use Rattle.wait_model.specs.declared.points.Point.TheVariants as at
use Rattle.wait_model.specs.declared.points.Next.TheVariants as next
use Rattle.wait_rule.specs.{Known.Known, Transitions.call_program}
use Rattle.wait_event.specs.{Ends.IsCondWaitCause, Ends.answer_of_end, Waits.has_queued_in}
use Rattle.wait_event.specs.declared.wait_events.WaitEnd.{WaitEnd}
use Rattle.wait_class.specs.Posts.{Runs}

-- a plain condition whose head is a simple one
pub record IsSimpleCond (c : ℕ) : Type 0 where
  pub simple : FIRST_SIMPLE ≤ c
  pub plain : c < PLAIN_CONDITIONS

-- how a simple wait is made that sleeps in this state: its entry goes to the tail
abbrev pub tail_in : SleepState → How
tail_in st = record { state = st; exclusive = true }

-- The task went through the program of a simple wait to this answer, which has its cause. `queued` is whether it queued
-- its entry.
pub record EndsSimpleWait (old new : Known) (c : ℕ) (st : SleepState) (result : Result (Unit {0}) WaitEnd) : Type 0
  where
    pub queued : Bool
    pub runs : Runs (call_program old.view.number 0 (calls.SimpleWait c st)) old new (next.Go at.First)
        (next.Ends (answer_of_end result))
    pub tells : queued ≡ has_queued_in runs.transitions
    pub cause : IsCondWaitCause new c (tail_in st) queued result
