-- To be believed.
-- The summary of a drill: what the run of its script says.
use Rattle.std.specs.Prelude.{ℕ, zero, suc, ◌+◌, List, [], ◌∷◌, ◌++◌, Bool, true, false, if◌then◌else◌, codes, decimal}
use Rattle.std.specs.declared.result.Result.{Result}
use Rattle.std.specs.declared.result.Result.TheVariants.{Ok, Err}
use Rattle.wait_model.specs.{declared.calls.Ran.Ran, declared.layout.TheConstants.SCRIPT_TASKS}
use Rattle.wait_model.specs.Runs.{State, state_of, made_in}
use Rattle.wait_core.specs.{declared.engine.StartFault.StartFault, Stepped.started}
use Rattle.wait_script.specs.{declared.line.Line.Line, Replay.replay_line}
use Rattle.wait_script.specs.declared.line.Line.TheVariants as line
use Rattle.drill_gen.specs.Drill.{drill_of}

-- the run after lines that are replayed from a run on
abbrev pub run_after_lines : List Ran → List Line → List Ran
run_after_lines run [] = run
run_after_lines run (line ∷ lines) = run_after_lines (replay_line run line).1 lines

abbrev pub is_refused : Result (Unit {0}) StartFault → Bool
is_refused (Ok x) = false
is_refused (Err fault) = true

-- whether a line is a call that is not opened
abbrev pub refuses : List Ran → Line → Bool
refuses run (line.Call task call) = is_refused (started (state_of run) task call)
refuses run (line.Step task count) = false

-- how many of the lines are such calls
abbrev pub refused_in : List Ran → List Line → ℕ
refused_in run [] = 0
refused_in run (line ∷ lines) = (if refuses run line then 1 else 0) + refused_in (replay_line run line).1 lines

-- how many of the tasks below a number are not runnable
abbrev pub asleep_below : State → ℕ → ℕ
asleep_below s zero = 0
asleep_below s (suc n) = asleep_below s n + (if (s.table.task n).runnable then 0 else 1)

-- a line of a name and a number
abbrev pub number_line : List ℕ → ℕ → List ℕ
number_line name number = name ++ decimal number ++ codes "\n"

abbrev pub head_line : ℕ → ℕ → List ℕ
head_line seed count = codes "drill " ++ decimal seed ++ number_line (codes " ") count

abbrev pub summary_of : ℕ → ℕ → List Line → List ℕ
summary_of seed count lines =
    head_line seed count ++ number_line (codes "events ") (made_in (run_after_lines [] lines))
    ++ number_line (codes "refused ") (refused_in [] lines)
    ++ number_line (codes "asleep ") (asleep_below (state_of (run_after_lines [] lines)) SCRIPT_TASKS)
    ++ codes "end\n"

-- the summary of a seed's script in a fresh core
abbrev pub drill_text : ℕ → ℕ → List ℕ
drill_text seed count = summary_of seed count (drill_of seed count)
