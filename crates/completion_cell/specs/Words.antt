-- To be believed.
-- Whole calls on completions as lists of events: what each makes follows its sentence, and a wait that answers for a
-- signal has found one in its last hold.
use Rattle.std.specs.Prelude.{ℕ, ◌≡◌, Bool, false, Result, Err, List, [], ◌∷◌}
use Rattle.wait_model.specs.declared.calls.Call.TheVariants as calls
use Rattle.wait_model.specs.{declared.calls.Event.Event, declared.tasks.SleepState.SleepState, Programs.signalled}
use Rattle.wait_model.specs.{Programs.zero_answer, Selections.IsSignalledHold, Sentences.Follows, Watches.head_of}
use Rattle.wait_model.specs.Watches.{number_of}
use Rattle.wait_model.specs.declared.calls.Event.TheVariants as event
use Rattle.wait_model.specs.declared.watches.Watch.TheVariants as watch
use Rattle.wait_rule.specs.{Heeding.trail_of, Known.Known, Says.MeetsLaw}
use Rattle.wait_class.specs.Posts.{IsOut}
use Rattle.wait_event.specs.{Words.call_says, declared.wait_events.WaitEnd.WaitEnd}
use Rattle.completion_cell.specs.AwaitEnds.{EndsAwait, answer_of_await}
use Rattle.completion_cell.specs.Asks.{HasAsked, HasReset, HasTriedCell, hit_answer}
use Rattle.completion_cell.specs.Completes.{HasCompleted, HasCompletedAll}

-- A completion is completed, for one and for all; a load of the base word after the call (`Task::witness`) shows the
-- table that is asked for.
abbrev pub CompletesFollow : Type 0
CompletesFollow = (old new : Known) (d : ℕ) → MeetsLaw new.view → (h : HasCompleted old new d)
    → Follows old.view.number (calls.Complete d) (call_says old.view.number (calls.Complete d) h.transitions)
    zero_answer

abbrev pub AllsFollow : Type 0
AllsFollow = (old new : Known) (d : ℕ) → MeetsLaw new.view → (h : HasCompletedAll old new d)
    → Follows old.view.number (calls.CompleteAll d) (call_says old.view.number (calls.CompleteAll d) h.transitions)
    zero_answer

-- One is taken where one is there, the count is asked, and it is cleared.
abbrev pub TryWaitsFollow : Type 0
TryWaitsFollow = (old new : Known) (d : ℕ) (hit : Bool) → MeetsLaw new.view → (h : HasTriedCell old new d hit)
    → Follows old.view.number (calls.TryWait d) (call_says old.view.number (calls.TryWait d) h.runs.transitions)
    (hit_answer hit)

abbrev pub AsksFollow : Type 0
AsksFollow = (old new : Known) (d : ℕ) (hit : Bool) → MeetsLaw new.view → (h : HasAsked old new d hit)
    → Follows old.view.number (calls.IsDone d) (call_says old.view.number (calls.IsDone d) h.runs.transitions)
    (hit_answer hit)

abbrev pub ResetsFollow : Type 0
ResetsFollow = (old new : Known) (d : ℕ) → MeetsLaw new.view → (h : HasReset old new d)
    → Follows old.view.number (calls.Reinit d) (call_says old.view.number (calls.Reinit d) h.transitions) zero_answer

-- A wait, whatever it answers.
abbrev pub AwaitsFollow : Type 0
AwaitsFollow = (old new : Known) (d : ℕ) (st : SleepState) (result : Result (Unit {0}) WaitEnd) → MeetsLaw new.view
    → IsOut old → (e : EndsAwait old new d st result) → Follows old.view.number (calls.WaitFor d st)
    (call_says old.view.number (calls.WaitFor d st) e.awaited.runs.transitions) (answer_of_await result)

-- The latest event gives the completion's head back. Before it the latest events are those of a hold that a signal
-- ended: it loaded the count as 0, found an admissible signal, stored RUNNING, and left its entry off
-- (`IsSignalledHold`, by which the same is said of each core).
pub record EndsStopped (me d : ℕ) (trail : List Event) : Type 0 where
  pub earlier : List Event
  pub unlock : trail ≡ event.Unlock (head_of (watch.Done d)) false ∷ earlier
  pub hold : IsSignalledHold me (head_of (watch.Done d)) (number_of (watch.Done d)) earlier

-- a wait that answers for a signal ends so
abbrev pub AwaitsHeed : Type 0
AwaitsHeed = (old new : Known) (d : ℕ) (st : SleepState) (e : WaitEnd) (ends : EndsAwait old new d st (Err e))
    → answer_of_await (Err e) ≡ signalled → EndsStopped old.view.number d
    (trail_of [] (call_says old.view.number (calls.WaitFor d st) ends.awaited.runs.transitions))
