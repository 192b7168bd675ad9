-- To be believed.
-- Whole calls on variables as lists of events: what each makes follows its sentence, and a wait that answers for a
-- signal has found one in its last turn.
use Rattle.std.specs.Prelude.{ℕ, ◌≡◌, Result, Err, []}
use Rattle.wait_model.specs.declared.calls.Answer.TheVariants as answer
use Rattle.wait_model.specs.declared.calls.Call.TheVariants as calls
use Rattle.wait_model.specs.{declared.queues.Walked.Walked, declared.tasks.SleepState.SleepState, Programs.signalled}
use Rattle.wait_model.specs.Sentences.{Follows}
use Rattle.wait_rule.specs.{Known.Known, Heeding.EndsSignalled, Heeding.trail_of, Says.MeetsLaw}
use Rattle.wait_event.specs.{declared.wait_events.WaitEnd.WaitEnd, Words.call_says}
use Rattle.wait_class.specs.Posts.{IsOut}
use Rattle.var_wait.specs.{VarPublishes.HasPublished, VarWaits.EndsVarWait, VarWaits.answer_of_var_end}

-- A wait for a variable, whatever it answers; a load of the base word after it (`Task::witness`) shows the table that
-- is asked for.
abbrev pub VarWaitsFollow : Type 0
VarWaitsFollow = (before new : Known) (v old : ℕ) (st : SleepState) (result : Result ℕ WaitEnd)
    → MeetsLaw new.view → IsOut before → (e : EndsVarWait before new v old st result)
    → Follows before.view.number (calls.WaitVar v old st)
    (call_says before.view.number (calls.WaitVar v old st) e.runs.transitions) (answer_of_var_end result)

-- A publish with its wake, whose answer has the numbers of its walk, none above the greatest that a word of it holds.
abbrev pub PublishesFollow : Type 0
PublishesFollow = (before new : Known) (v value : ℕ) (walked : Walked) → MeetsLaw new.view
    → (h : HasPublished before new v value walked) → Follows before.view.number (calls.SetVar v value)
    (call_says before.view.number (calls.SetVar v value) h.runs.transitions) (answer.Walk h.real)

-- a wait that answers for a signal ends as the law on signals says
abbrev pub VarWaitsHeed : Type 0
VarWaitsHeed = (before new : Known) (v old : ℕ) (st : SleepState) (e : WaitEnd)
    (ends : EndsVarWait before new v old st (Err e)) → answer_of_var_end (Err e) ≡ signalled
    → EndsSignalled before.view.number (calls.WaitVar v old st)
    (trail_of [] (call_says before.view.number (calls.WaitVar v old st) ends.runs.transitions))
