-- To be believed.
-- The text of a replay: what each line of a script prints from a run on, and at the end the end lines. The state of a
-- replay is its run, since that is what a core is.
use Rattle.std.specs.Prelude.{ℕ, zero, suc, List, [], ◌∷◌, ◌++◌, Bool, true, false, if◌then◌else◌}
use Rattle.std.specs.declared.option.Option.TheVariants.{Some, None}
use Rattle.std.specs.declared.result.Result.{Result}
use Rattle.std.specs.declared.result.Result.TheVariants.{Ok, Err}
use Rattle.wait_model.specs.{declared.calls.Call.Call, declared.calls.Event.Event, declared.calls.Ran.Ran}
use Rattle.wait_model.specs.{Runs.state_of, Runs.made_in}
use Rattle.wait_model.specs.declared.calls.Event.TheVariants as event
use Rattle.wait_model.specs.declared.tasks.Sleep.TheVariants as sleep
use Rattle.wait_core.specs.{declared.engine.Stepped.Stepped, declared.engine.Stepped.TheVariants.Made}
use Rattle.wait_core.specs.declared.engine.StartFault.{StartFault}
use Rattle.wait_core.specs.Stepped.{stepped, items_of, started, opened_by}
use Rattle.wait_script.specs.{declared.line.Line.Line, Text.step_text, Text.refused_text, Ending.ending_text}
use Rattle.wait_script.specs.declared.line.Line.TheVariants as line

-- what a task's next step answers after a run, and the run after that step
abbrev pub answer_at : List Ran → ℕ → Stepped
answer_at run task = stepped (state_of run) (made_in run) task ((state_of run).progress task)

abbrev pub run_after : List Ran → ℕ → Stepped → List Ran
run_after run task answer = run ++ items_of (state_of run) task answer

-- an event that puts its task to sleep
abbrev pub is_asleep : Event → Bool
is_asleep (event.Sleep sleep.Asleep) = true
is_asleep _ = false

-- a `step` line ends here
abbrev pub stops : Stepped → Bool
stops (Made event (Some answer)) = true
stops (Made event None) = is_asleep event
stops _ = true

-- a text, the text after it, and the run at the end
abbrev pub then_text : List ℕ → List ℕ × List Ran → List ℕ × List Ran
then_text text more = (text ++ more.0, more.1)

-- up to so many steps of a task
abbrev pub played_steps : ℕ → List Ran → ℕ → List ℕ × List Ran
played_steps zero run task = ([], run)
played_steps (suc n) run task =
    let answer = answer_at run task in
    if stops answer
    then (step_text task answer, run_after run task answer)
    else then_text (step_text task answer) (played_steps n (run_after run task answer) task)

-- what the opening of a call prints
abbrev pub opened_text : ℕ → Result (Unit {0}) StartFault → List ℕ
opened_text task (Ok x) = []
opened_text task (Err fault) = refused_text task fault

abbrev pub opening_of : List Ran → ℕ → Call → List ℕ × List Ran
opening_of run task call =
    let answer = started (state_of run) task call in
    (opened_text task answer, run ++ opened_by task call answer)

-- what a line prints, and the run after it
abbrev pub replay_line : List Ran → Line → List ℕ × List Ran
replay_line run (line.Call task call) = opening_of run task call
replay_line run (line.Step task count) = played_steps count run task

-- the lines from a run on, and the end lines
abbrev pub replay_from : List Ran → List Line → List ℕ
replay_from run [] = ending_text run
replay_from run (line ∷ lines) = (replay_line run line).0 ++ replay_from (replay_line run line).1 lines

-- the text of a script in a fresh core
abbrev pub replay_text : List Line → List ℕ
replay_text lines = replay_from [] lines
