-- To be believed.
-- What a word says in its place, or why not.
use Rattle.std.specs.Prelude.{ℕ, ◌-◌, ◌^◌, List, [], ◌∷◌, Option, Some, None, Result, Ok, Err, Bool, true, false, ◌&&◌}
use Rattle.std.specs.Prelude.{nat_le, if◌then◌else◌, ◌==◌, codes}
use Rattle.std.specs.List.{before_first, after_first}
use Rattle.std.specs.Str.{bytes_eq}
use Rattle.wait_model.specs.{declared.tasks.How.How, declared.tasks.SleepState.SleepState, declared.watches.Mode.Mode}
use Rattle.wait_model.specs.{declared.watches.Kind.Kind, declared.queues.Form.Form}
use Rattle.wait_model.specs.declared.tasks.SleepState.TheVariants.{Uninterruptible, Interruptible, Killable}
use Rattle.wait_model.specs.declared.layout.TheConstants.{BIT_WORDS, COMPLETIONS, FIRST_SIMPLE, PLAIN_CONDITIONS}
use Rattle.wait_model.specs.declared.layout.TheConstants.{PRIORITY_TASKS, VARIABLES, WORD_BITS}
use Rattle.wait_model.specs.declared.watches.Mode.TheVariants as mode
use Rattle.wait_model.specs.declared.watches.Kind.TheVariants as kind
use Rattle.wait_model.specs.declared.queues.Form.TheVariants as form
use Rattle.wait_script.specs.{declared.reason.Reason.Reason, Number.numeral_value, Words.both_of}
use Rattle.wait_script.specs.declared.reason.Reason.TheVariants.{BadNumber, BadForm, BadCondition}

-- the last task that adds with priority
abbrev pub last_priority_task : ℕ
last_priority_task = PRIORITY_TASKS - 1

-- the last condition that has a full wait queue, and the last of all
abbrev pub last_full : ℕ
last_full = FIRST_SIMPLE - 1

abbrev pub last_cond : ℕ
last_cond = PLAIN_CONDITIONS - 1

-- the last completion, variable, bit word and bit of a word
abbrev pub last_cell : ℕ
last_cell = COMPLETIONS - 1

abbrev pub last_var : ℕ
last_var = VARIABLES - 1

abbrev pub last_word : ℕ
last_word = BIT_WORDS - 1

abbrev pub last_bit : ℕ
last_bit = WORD_BITS - 1

-- a number in a range
abbrev pub number_within : Reason → ℕ → ℕ → Option ℕ → Result ℕ Reason
number_within why low most None = Err why
number_within why low most (Some n) = if nat_le low n && nat_le n most then Ok n else Err why

abbrev pub number_at : ℕ → ℕ → List ℕ → Result ℕ Reason
number_at low most word = number_within BadNumber low most (numeral_value word)

-- a value of a condition word
abbrev pub value_at : List ℕ → Result ℕ Reason
value_at word = number_at 0 (2 ^ 64 - 1) word

-- a letter and a number
abbrev pub numbered_at : ℕ → ℕ → ℕ → List ℕ → Result ℕ Reason
numbered_at letter low most [] = Err BadCondition
numbered_at letter low most (c ∷ digits) =
    if c == letter then number_within BadCondition low most (numeral_value digits) else Err BadCondition

-- a plain condition, `c`; a completion, `d`; a variable, `v`
abbrev pub cond_field : ℕ → ℕ → List ℕ → Result ℕ Reason
cond_field low most word = numbered_at 99 low most word

abbrev pub cell_at : List ℕ → Result ℕ Reason
cell_at word = numbered_at 100 0 last_cell word

abbrev pub var_at : List ℕ → Result ℕ Reason
var_at word = numbered_at 118 0 last_var word

-- a page: bit 0 of a bit word, `b` and the word's number
abbrev pub page_at : List ℕ → Result ℕ Reason
page_at word = numbered_at 98 0 last_word word

-- a bit of a bit word: `b` and the word's number before the first dot, the bit's number after it
abbrev pub is_dot : ℕ → Bool
is_dot b = b == 46

abbrev pub bit_at : List ℕ → Result (ℕ × ℕ) Reason
bit_at word = both_of (numbered_at 98 0 last_word (before_first is_dot word))
    (number_within BadCondition 0 last_bit (numeral_value (after_first is_dot word)))

-- the value that a table of keywords has at a word
abbrev pub keyword_at : {A : Type 0} → List (List ℕ × A) → List ℕ → Result A Reason
keyword_at [] word = Err BadForm
keyword_at (entry ∷ table) word = if bytes_eq word entry.0 then Ok entry.1 else keyword_at table word

abbrev pub hows : List (List ℕ × How)
hows =
    (codes "plain", record { state = Uninterruptible; exclusive = false })
    ∷ (codes "int", record { state = Interruptible; exclusive = false })
    ∷ (codes "kill", record { state = Killable; exclusive = false })
    ∷ (codes "int-ex", record { state = Interruptible; exclusive = true })
    ∷ (codes "kill-ex", record { state = Killable; exclusive = true })
    ∷ []

abbrev pub states : List (List ℕ × SleepState)
states = (codes "plain", Uninterruptible) ∷ (codes "int", Interruptible) ∷ (codes "kill", Killable) ∷ []

-- a simple wait is not killable
abbrev pub simple_states : List (List ℕ × SleepState)
simple_states = (codes "plain", Uninterruptible) ∷ (codes "int", Interruptible) ∷ []

abbrev pub modes : List (List ℕ × Mode)
modes = (codes "normal", mode.Normal) ∷ (codes "int", mode.Interruptible) ∷ []

-- the kinds with which entries are added
abbrev pub kinds : List (List ℕ × Kind)
kinds = (codes "default", kind.Default) ∷ (codes "woken", kind.Woken) ∷ []

abbrev pub forms : List (List ℕ × Form)
forms = (codes "front", form.Front) ∷ (codes "tail", form.Tail) ∷ (codes "prio", form.Priority) ∷ []

-- whether a signal is fatal
abbrev pub signal_words : List (List ℕ × Bool)
signal_words = (codes "plain", false) ∷ (codes "fatal", true) ∷ []

-- whether a wake of a simple queue wakes all
abbrev pub extents : List (List ℕ × Bool)
extents = (codes "one", false) ∷ (codes "all", true) ∷ []

abbrev pub how_at : List ℕ → Result How Reason
how_at word = keyword_at hows word

abbrev pub state_at : List ℕ → Result SleepState Reason
state_at word = keyword_at states word

abbrev pub simple_state_at : List ℕ → Result SleepState Reason
simple_state_at word = keyword_at simple_states word

abbrev pub mode_at : List ℕ → Result Mode Reason
mode_at word = keyword_at modes word

abbrev pub kind_field : List ℕ → Result Kind Reason
kind_field word = keyword_at kinds word

abbrev pub form_at : List ℕ → Result Form Reason
form_at word = keyword_at forms word

abbrev pub fatal_at : List ℕ → Result Bool Reason
fatal_at word = keyword_at signal_words word

abbrev pub all_at : List ℕ → Result Bool Reason
all_at word = keyword_at extents word
