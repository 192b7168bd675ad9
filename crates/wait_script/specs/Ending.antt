-- To be believed.
-- The end lines of a text: the number of events, the tasks, the heads that have members, and the condition words that
-- are not 0.
use Rattle.std.specs.Prelude.{ℕ, zero, suc, ◌+◌, ◌-◌, List, [], ◌∷◌, ◌++◌, Bool, if◌then◌else◌, ◌==◌, codes, decimal}
use Rattle.std.specs.List.{flat_map}
use Rattle.std.specs.declared.option.Option.{Option}
use Rattle.std.specs.declared.option.Option.TheVariants.{Some, None}
use Rattle.wait_model.specs.{declared.calls.Ran.Ran, declared.queues.Member.Member}
use Rattle.wait_model.specs.{declared.tasks.TaskRecord.TaskRecord, Queues.is_entry, Watches.owner, Locations.word_in}
use Rattle.wait_model.specs.Locations.{cond_at}
use Rattle.wait_model.specs.declared.layout.TheConstants.{CONDITIONS, ENTRIES, HEADS, TASKS}
use Rattle.wait_model.specs.Runs.{State, state_of, made_in}
use Rattle.wait_core.specs.Stepped.{call_shown}
use Rattle.wait_script.specs.Text.{state_text, cond_text}

-- the texts of n numbers, from a number on
unfoldable pub texts_from : (ℕ → List ℕ) → ℕ → ℕ → List ℕ
texts_from text i zero = []
texts_from text i (suc n) = text i ++ texts_from text (i + 1) n

abbrev pub events_text : ℕ → List ℕ
events_text events = codes "events " ++ decimal events ++ codes "\n"

-- the signal that a task has pending
abbrev pub signal_text : TaskRecord → List ℕ
signal_text t = if t.fatal then codes "fatal" else if t.signal then codes "plain" else codes "none"

-- what a task does, by whether it has a call open, and whether it can run
abbrev pub act_text : Bool → Bool → List ℕ
act_text is_open runnable = if is_open then (if runnable then codes "open" else codes "asleep")
    else codes "idle"

-- the line of a task, and none of one that never had a call
abbrev pub task_text : ℕ → Option Bool → TaskRecord → List ℕ
task_text who None t = []
task_text who (Some is_open) t = codes "task " ++ decimal who ++ codes " " ++ state_text t.state ++ codes " "
    ++ signal_text t ++ codes " " ++ act_text is_open t.runnable ++ codes "\n"

-- an entry by the task whose it is, and a bookmark by its task after a star
abbrev pub member_text : Member → List ℕ
member_text m =
    if is_entry m then codes " t" ++ decimal (owner m.at) else codes " *t" ++ decimal (m.at - ENTRIES)

-- the members after a head's number, and the end of the line
abbrev pub members_text : List Member → List ℕ
members_text queue = flat_map member_text queue ++ codes "\n"

-- the line of a head, and none of one without members
abbrev pub head_text : ℕ → List Member → List ℕ
head_text head [] = []
head_text head (m ∷ ms) = codes "head h" ++ decimal head ++ members_text (m ∷ ms)

-- the line of a condition word, and none where it is 0
abbrev pub word_text : ℕ → ℕ → List ℕ
word_text cond value =
    if value == 0 then [] else codes "word " ++ cond_text cond ++ codes " " ++ decimal value ++ codes "\n"

-- the lines of a task, a head and a condition word in a state
abbrev pub line_of_task : State → ℕ → List ℕ
line_of_task s task = task_text task (call_shown (s.progress task)) (s.table.task task)

abbrev pub line_of_head : State → ℕ → List ℕ
line_of_head s head = head_text head (s.queue head)

abbrev pub line_of_word : State → ℕ → List ℕ
line_of_word s cond = word_text cond (word_in s.table (cond_at cond))

-- the lines of all tasks, of all heads and of all condition words, each by rising number
abbrev pub tasks_text : State → List ℕ
tasks_text s = texts_from (line_of_task s) 0 TASKS

abbrev pub heads_text : State → List ℕ
heads_text s = texts_from (line_of_head s) 0 HEADS

abbrev pub words_text : State → List ℕ
words_text s = texts_from (line_of_word s) 0 CONDITIONS

-- the end lines after a run
abbrev pub ending_text : List Ran → List ℕ
ending_text run = events_text (made_in run) ++ (tasks_text (state_of run) ++ (heads_text (state_of run)
    ++ (words_text (state_of run) ++ codes "end\n")))
