-- To be believed.
-- The drill: the script of a seed, by calls drawn from the words of a SplitMix64 generator.
use Rattle.std.specs.Prelude.{ℕ, zero, suc, ◌*◌, ◌/◌, ◌%◌, List, [], ◌∷◌, ◌++◌, true, false, if◌then◌else◌, ◌==◌}
use Rattle.rand_xoshiro.specs.SplitMix64.{mix_u64}
use Rattle.wait_model.specs.declared.calls.Call.{Call}
use Rattle.wait_model.specs.declared.calls.Call.TheVariants as call
use Rattle.wait_model.specs.declared.tasks.How.{How}
use Rattle.wait_model.specs.declared.tasks.SleepState.TheVariants.{Uninterruptible, Interruptible}
use Rattle.wait_model.specs.declared.watches.Mode.TheVariants as mode
use Rattle.wait_script.specs.declared.line.Line.{Line}
use Rattle.wait_script.specs.declared.line.Line.TheVariants as line

-- a waiter that nothing but a wake ends, one that a signal ends too, and an exclusive one of these
abbrev pub plain : How
plain = record { state = Uninterruptible; exclusive = false }

abbrev pub int : How
int = record { state = Interruptible; exclusive = false }

abbrev pub int_ex : How
int_ex = record { state = Interruptible; exclusive = true }

-- how many tasks make calls, kinds of calls there are, and conditions they speak of, each from 0 on
abbrev pub callers : ℕ
callers = 16

abbrev pub call_kinds : ℕ
call_kinds = 8

abbrev pub conds : ℕ
conds = 4

-- up to how many steps a task makes after its call was opened
abbrev pub most_steps : ℕ
most_steps = 40

-- a word gives the task of a call, the kind of the call, its condition, and the task that a signal goes to
abbrev pub task_in : ℕ → ℕ
task_in word = word % callers

abbrev pub kind_in : ℕ → ℕ
kind_in word = word / callers % call_kinds

abbrev pub drawn_cond : ℕ → ℕ
drawn_cond word = word / (callers * call_kinds) % conds

abbrev pub whom_in : ℕ → ℕ
whom_in word = word / (callers * call_kinds * conds) % callers

-- the calls by their kinds
abbrev pub call_of : ℕ → ℕ → ℕ → Call
call_of kind cond whom =
    if kind == 0 then call.Wait cond plain
    else if kind == 1 then call.Wait cond int
    else if kind == 2 then call.Wait cond int_ex
    else if kind == 3 then call.Set cond 1
    else if kind == 4 then call.Wake cond mode.Normal 0
    else if kind == 5 then call.Take cond
    else if kind == 6 then call.Signal whom false
    else call.Accept

abbrev pub drawn_call : ℕ → Call
drawn_call word = call_of (kind_in word) (drawn_cond word) (whom_in word)

-- the lines of a word: the call of its task is opened, and the task makes its steps
abbrev pub drawn_lines : ℕ → List Line
drawn_lines word = line.Call (task_in word) (drawn_call word) ∷ line.Step (task_in word) most_steps ∷ []

-- the lines of so many calls, drawn from a state of the generator on
abbrev pub drawn_from : ℕ → ℕ → List Line
drawn_from state zero = []
drawn_from state (suc count) = drawn_lines (mix_u64 state).0 ++ drawn_from (mix_u64 state).1 count

-- the generator starts from the seed, and its state is the number that the seed is
abbrev pub drill_of : ℕ → ℕ → List Line
drill_of seed count = drawn_from seed count
