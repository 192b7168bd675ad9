-- To be believed.
-- The texts of events, answers and refusals.
use Rattle.std.specs.Prelude.{ℕ, ◌-◌, List, [], ◌∷◌, ◌++◌, Option, Some, None, Bool, true, false, nat_lt, if◌then◌else◌}
use Rattle.std.specs.Prelude.{◌==◌, codes, decimal}
use Rattle.std.specs.Fmt.{signed_decimal}
use Rattle.wait_model.specs.{declared.tasks.Sleep.Sleep, declared.tasks.Taken.Taken, declared.queues.Form.Form}
use Rattle.wait_model.specs.{declared.calls.Event.Event, declared.queues.End.End, declared.calls.Answer.Answer}
use Rattle.wait_model.specs.declared.layout.TheConstants.{FIRST_BIT_WORD, FIRST_DONE, FIRST_VARIABLE, INTERRUPTIBLE}
use Rattle.wait_model.specs.declared.layout.TheConstants.{RUNNING, UNINTERRUPTIBLE}
use Rattle.wait_model.specs.declared.queues.Form.TheVariants.{Front, Tail, Priority}
use Rattle.wait_model.specs.declared.calls.Answer.TheVariants.{Number, Value, Walk, Worn}
use Rattle.wait_model.specs.declared.tasks.Sleep.TheVariants as sleep
use Rattle.wait_model.specs.declared.tasks.Taken.TheVariants as taken
use Rattle.wait_model.specs.declared.calls.Event.TheVariants as event
use Rattle.wait_model.specs.declared.queues.End.TheVariants as end
use Rattle.wait_core.specs.{declared.engine.Stepped.Stepped, declared.engine.StartFault.StartFault}
use Rattle.wait_core.specs.declared.engine.Stepped.TheVariants.{Made, NoCall, Asleep, Busy, Full}
use Rattle.wait_core.specs.declared.engine.StartFault.TheVariants.{CallOpen, NoSuchCond, NotHeld, EntryQueued, NoEntry}

-- the name of a task's state
abbrev pub state_text : ℕ → List ℕ
state_text state =
    if state == RUNNING then codes "run" else if state == INTERRUPTIBLE then codes "int"
    else if state == UNINTERRUPTIBLE then codes "unint" else codes "kill"

-- a condition word by its number: plain conditions, completions, bit words and variables
abbrev pub cond_text : ℕ → List ℕ
cond_text cond =
    if nat_lt cond FIRST_DONE then codes "c" ++ decimal cond
    else if nat_lt cond FIRST_BIT_WORD then codes "d" ++ decimal (cond - FIRST_DONE)
    else if nat_lt cond FIRST_VARIABLE then codes "b" ++ decimal (cond - FIRST_BIT_WORD)
    else codes "v" ++ decimal (cond - FIRST_VARIABLE)

abbrev pub sleep_text : Sleep → List ℕ
sleep_text sleep.Stay = codes "stay"
sleep_text sleep.Signal = codes "signal"
sleep_text sleep.Asleep = codes "asleep"

-- what an `accept` took
abbrev pub taken_text : Taken → List ℕ
taken_text taken.Nothing = codes "none"
taken_text taken.Plain = codes "plain"
taken_text taken.Fatal = codes "fatal"

abbrev pub form_text : Form → List ℕ
form_text Front = codes "front"
form_text Tail = codes "tail"
form_text Priority = codes "prio"

abbrev pub yes_text : Bool → List ℕ
yes_text true = codes "yes"
yes_text false = codes "no"

abbrev pub bit_text : ℕ → ℕ → List ℕ
bit_text word bit = codes "b" ++ decimal word ++ codes "." ++ decimal bit

abbrev pub event_text : Event → List ℕ
event_text (event.State state) = codes "state " ++ state_text state
event_text (event.Sleep sleep) = codes "sleep " ++ sleep_text sleep
event_text (event.Wake who woke) = codes "wake t" ++ decimal who ++ codes " " ++ yes_text woke
event_text (event.Signal who fatal) = codes "signal t" ++ decimal who
    ++ (if fatal then codes " fatal" else codes " plain")
event_text (event.Accept taken) = codes "accept " ++ taken_text taken
event_text (event.Look pending) = codes "look " ++ yes_text pending
event_text (event.Lock head) = codes "lock h" ++ decimal head
event_text (event.Unlock head spent) = codes "unlock h" ++ decimal head
    ++ (if spent then codes " spent" else [])
event_text (event.Queue head form) = codes "queue h" ++ decimal head ++ codes " " ++ form_text form
event_text (event.Unqueue who) = codes "unqueue t" ++ decimal who
event_text (event.Mark head) = codes "mark h" ++ decimal head
event_text (event.Unmark head) = codes "unmark h" ++ decimal head
event_text (event.Queued there) = codes "queued " ++ yes_text there
event_text (event.Active head there) = codes "active h" ++ decimal head ++ codes " " ++ yes_text there
event_text (event.Load cond value) = codes "load " ++ cond_text cond ++ codes " " ++ decimal value
event_text (event.Set cond value) = codes "set " ++ cond_text cond ++ codes " " ++ decimal value
event_text (event.Take cond found) = codes "take c" ++ decimal cond ++ codes " " ++ decimal found
event_text (event.Tas word bit found) = codes "tas " ++ bit_text word bit ++ codes " " ++ decimal found
event_text (event.TasFor word who found) =
    codes "tas " ++ bit_text word 0 ++ codes " " ++ decimal found ++ codes " t" ++ decimal who
event_text (event.Handed who) = codes "handed t" ++ decimal who
event_text (event.Clear word bit) = codes "clear " ++ bit_text word bit
event_text (event.Woken who) = codes "woken t" ++ decimal who
event_text (event.Flag there) = codes "flag " ++ yes_text there
event_text event.Unflag = codes "unflag"

abbrev pub end_text : End → List ℕ
end_text end.End = codes "end"
end_text end.Spent = codes "spent"
end_text end.Stopped = codes "stopped"

-- what a call answers; no core answers `Worn`, so no replay writes it
abbrev pub answer_text : Answer → List ℕ
answer_text (Number n) = signed_decimal n
answer_text (Value n) = decimal n
answer_text (Walk w) = codes "woken " ++ decimal w.woken ++ codes " selected " ++ decimal w.selected
    ++ codes " holds " ++ decimal w.holds ++ codes " " ++ end_text w.end
answer_text Worn = codes "worn"

-- a line of a task
abbrev pub task_line : ℕ → List ℕ → List ℕ
task_line task text = codes "t" ++ decimal task ++ codes " " ++ text ++ 10 ∷ []

abbrev pub answer_lines : ℕ → Option Answer → List ℕ
answer_lines task None = []
answer_lines task (Some answer) = task_line task (codes "= " ++ answer_text answer)

-- what a step of a task prints
abbrev pub step_text : ℕ → Stepped → List ℕ
step_text task (Made event ended) = task_line task (event_text event) ++ answer_lines task ended
step_text task NoCall = task_line task (codes "nocall")
step_text task Asleep = task_line task (codes "asleep")
step_text task (Busy head) = task_line task (codes "busy h" ++ decimal head)
step_text task Full = []

-- refused openings by their numbers
abbrev pub fault_number : StartFault → ℕ
fault_number CallOpen = 2
fault_number NoSuchCond = 3
fault_number NotHeld = 4
fault_number EntryQueued = 5
fault_number NoEntry = 6

abbrev pub refused_text : ℕ → StartFault → List ℕ
refused_text task fault = task_line task (codes "refused " ++ decimal (fault_number fault))
