-- To be believed.
-- Whole calls on simple queues as lists of events: what each makes follows its sentence, and a wait that answers for a
-- signal has found one in its last turn.
use Rattle.std.specs.Prelude.{ℕ, ◌≡◌, Bool, Result, Err, [], pos}
use Rattle.wait_model.specs.declared.calls.Answer.TheVariants as answer
use Rattle.wait_model.specs.declared.calls.Call.TheVariants as calls
use Rattle.wait_model.specs.{declared.tasks.SleepState.SleepState, Programs.signalled, Sentences.Follows}
use Rattle.wait_rule.specs.{Known.Known, Heeding.EndsSignalled, Heeding.trail_of, Says.MeetsLaw}
use Rattle.wait_event.specs.{declared.wait_events.WaitEnd.WaitEnd, Ends.answer_of_end, Words.call_says}
use Rattle.wait_class.specs.Posts.{IsOut}
use Rattle.swait_queue.specs.{SimpleWaits.EndsSimpleWait, SimpleWakes.EndsSimpleWake}

-- A simple wait, whatever it answers; a load of the base word after it (`Task::witness`) shows the table that is asked
-- for.
abbrev pub SimpleWaitsFollow : Type 0
SimpleWaitsFollow = (old new : Known) (c : ℕ) (st : SleepState) (result : Result (Unit {0}) WaitEnd)
    → MeetsLaw new.view → IsOut old → (e : EndsSimpleWait old new c st result)
    → Follows old.view.number (calls.SimpleWait c st)
    (call_says old.view.number (calls.SimpleWait c st) e.runs.transitions) (answer_of_end result)

-- a wake of one or of all
abbrev pub SimpleWakesFollow : Type 0
SimpleWakesFollow = (old new : Known) (c : ℕ) (all : Bool) (n : ℕ) → MeetsLaw new.view
    → (e : EndsSimpleWake old new c all n) → Follows old.view.number (calls.SimpleWake c all)
    (call_says old.view.number (calls.SimpleWake c all) e.runs.transitions) (answer.Number (pos n))

-- a wait that answers for a signal ends as the law on signals says
abbrev pub SimpleWaitsHeed : Type 0
SimpleWaitsHeed = (old new : Known) (c : ℕ) (st : SleepState) (e : WaitEnd)
    (ends : EndsSimpleWait old new c st (Err e)) → answer_of_end (Err e) ≡ signalled
    → EndsSignalled old.view.number (calls.SimpleWait c st)
    (trail_of [] (call_says old.view.number (calls.SimpleWait c st) ends.runs.transitions))
