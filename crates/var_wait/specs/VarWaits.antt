-- To be believed.
-- Waits for variables.
use Rattle.std.specs.Prelude.{ℕ, ◌≡◌, ◌≢◌, false, None, Some, Result, Ok, Err, List}
use Rattle.wait_model.specs.{declared.calls.Answer.Answer, declared.tasks.How.How, declared.tasks.SleepState.SleepState}
use Rattle.wait_model.specs.{Programs.signalled, Programs.zero_answer}
use Rattle.wait_model.specs.declared.calls.Answer.TheVariants as answer
use Rattle.wait_model.specs.declared.calls.Call.TheVariants as calls
use Rattle.wait_model.specs.declared.points.Point.TheVariants as at
use Rattle.wait_model.specs.declared.points.Next.TheVariants as next
use Rattle.wait_model.specs.declared.watches.Watch.TheVariants as watch
use Rattle.wait_rule.specs.{Known.Known, Transitions.Transition, Transitions.call_program}
use Rattle.wait_event.specs.{Ends.IsEndCause, Waits.last_loaded, Waits.has_queued_in}
use Rattle.wait_event.specs.declared.wait_events.WaitEnd.{WaitEnd}
use Rattle.wait_class.specs.Posts.{Runs}
use Rattle.wait_event.specs.declared.wait_events.WaitEnd.TheVariants as wait_end

-- how a wait for a variable is made that sleeps in this state: it is not exclusive
abbrev pub shared_in : SleepState → How
shared_in st = record { state = st; exclusive = false }

-- the answer of the program, which shows no value
abbrev pub answer_of_var_end : Result ℕ WaitEnd → Answer
answer_of_var_end (Ok value) = zero_answer
answer_of_var_end (Err (wait_end.Signal seen selected)) = signalled
answer_of_var_end (Err (wait_end.Worn h place)) = answer.Worn

-- The cause of each answer, by the transitions of the call: the value is what the last load among them found, and it is
-- not the old one; or what ended the wait without one (`IsEndCause`), where the last load found the old value.
abbrev pub IsVarCause : Known → ℕ → ℕ → SleepState → List Transition → Result ℕ WaitEnd → Type 0
IsVarCause k v old st ts (Ok value) = (last_loaded None ts ≡ Some value) × (value ≢ old)
IsVarCause k v old st ts (Err e) = IsEndCause k (watch.Var v old) (shared_in st) (has_queued_in ts) e

-- The task went through the program of a wait for the variable to this answer, which has its cause.
pub record EndsVarWait (before new : Known) (v old : ℕ) (st : SleepState) (result : Result ℕ WaitEnd) : Type 0 where
  pub runs : Runs (call_program before.view.number 0 (calls.WaitVar v old st)) before new (next.Go at.First)
      (next.Ends (answer_of_var_end result))
  pub cause : IsVarCause new v old st runs.transitions result

-- the answer of a wait of the class, with what its last load found
abbrev pub with_loaded : ℕ → Result (Unit {0}) WaitEnd → Result ℕ WaitEnd
with_loaded value (Ok u) = Ok value
with_loaded value (Err e) = Err e
