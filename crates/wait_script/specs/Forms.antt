-- To be believed.
-- The forms of the calls: for each name what its words say, or the first why.
use Rattle.std.specs.Prelude.{ℕ, List, [], ◌∷◌, ◌++◌, Result, Ok, Err, Bool, true, false, ◌&&◌, if◌then◌else◌, codes}
use Rattle.std.specs.Prelude.{decimal}
use Rattle.std.specs.Str.{bytes_eq}
use Rattle.wait_model.specs.{declared.calls.Call.Call, declared.tasks.How.How, declared.tasks.SleepState.SleepState}
use Rattle.wait_model.specs.{declared.watches.Mode.Mode, declared.watches.Kind.Kind}
use Rattle.wait_model.specs.declared.layout.TheConstants.{FIRST_SIMPLE}
use Rattle.wait_model.specs.declared.tasks.SleepState.TheVariants.{Uninterruptible, Interruptible, Killable}
use Rattle.wait_model.specs.declared.calls.Call.TheVariants as call
use Rattle.wait_model.specs.declared.watches.Mode.TheVariants as mode
use Rattle.wait_model.specs.declared.watches.Kind.TheVariants as kind
use Rattle.wait_script.specs.{declared.reason.Reason.Reason, declared.reason.Reason.TheVariants.UnknownWord}
use Rattle.wait_script.specs.{declared.reason.Reason.TheVariants.WordCount, declared.version.Version.Version}
use Rattle.wait_script.specs.{declared.version.Version.TheVariants.One, declared.version.Version.TheVariants.Two}
use Rattle.wait_script.specs.{Text.form_text, Text.bit_text, Versions.last_task, Versions.most_selected, Words.both_of}
use Rattle.wait_script.specs.Words.{made_of}
use Rattle.wait_script.specs.Fields.{number_at, value_at, cond_field, cell_at, var_at, bit_at, page_at, how_at}
use Rattle.wait_script.specs.Fields.{state_at, simple_state_at, mode_at, kind_field, form_at, fatal_at, all_at}
use Rattle.wait_script.specs.Fields.{last_priority_task, last_full, last_cond}

-- so many fields, each in its place
abbrev pub form0 : Call → List (List ℕ) → Result Call Reason
form0 made [] = Ok made
form0 made words = Err WordCount

abbrev pub form1 : {A : Type 0} → (List ℕ → Result A Reason) → (A → Call) → List (List ℕ)
    → Result Call Reason
form1 f make (a ∷ []) = made_of make (f a)
form1 f make words = Err WordCount

abbrev pub form2 : {A B : Type 0} → (List ℕ → Result A Reason) → (List ℕ → Result B Reason) → (A → B → Call)
    → List (List ℕ) → Result Call Reason
form2 f g make (a ∷ b ∷ []) = made_of (λ x. make x.0 x.1) (both_of (f a) (g b))
form2 f g make words = Err WordCount

abbrev pub form3 : {A B C : Type 0} → (List ℕ → Result A Reason) → (List ℕ → Result B Reason)
    → (List ℕ → Result C Reason) → (A → B → C → Call) → List (List ℕ) → Result Call Reason
form3 f g h make (a ∷ b ∷ c ∷ []) = made_of (λ x. make x.0 x.1.0 x.1.1) (both_of (f a) (both_of (g b) (h c)))
form3 f g h make words = Err WordCount

abbrev pub wait_at : List (List ℕ) → Result Call Reason
wait_at words = form2 (cond_field 0 last_full) how_at (λ cond how. call.Wait cond how) words

abbrev pub set_at : List (List ℕ) → Result Call Reason
set_at words = form2 (cond_field 0 last_cond) value_at (λ cond value. call.Set cond value) words

abbrev pub take_at : List (List ℕ) → Result Call Reason
take_at words = form1 (cond_field 0 last_cond) (λ cond. call.Take cond) words

abbrev pub read_at : List (List ℕ) → Result Call Reason
read_at words = form1 (cond_field 0 last_cond) (λ cond. call.Read cond) words

abbrev pub wake_at : Version → List (List ℕ) → Result Call Reason
wake_at version words =
    form3 (cond_field 0 last_full) mode_at (number_at 0 (most_selected version))
    (λ cond mode count. call.Wake cond mode count) words

abbrev pub add_at : List (List ℕ) → Result Call Reason
add_at words = form3 (cond_field 0 last_full) kind_field form_at (λ cond kind form. call.Add cond kind form) words

abbrev pub remove_at : List (List ℕ) → Result Call Reason
remove_at words = form0 call.Remove words

abbrev pub woken_at : List (List ℕ) → Result Call Reason
woken_at words = form1 state_at (λ state. call.Woken state) words

abbrev pub signal_at : Version → List (List ℕ) → Result Call Reason
signal_at version words = form2 (number_at 0 (last_task version)) fatal_at (λ who fatal. call.Signal who fatal) words

abbrev pub accept_at : List (List ℕ) → Result Call Reason
accept_at words = form0 call.Accept words

abbrev pub kick_at : Version → List (List ℕ) → Result Call Reason
kick_at version words = form1 (number_at 0 (last_task version)) (λ who. call.Kick who) words

abbrev pub simple_wait_at : List (List ℕ) → Result Call Reason
simple_wait_at words =
    form2 (cond_field FIRST_SIMPLE last_cond) simple_state_at (λ cond state. call.SimpleWait cond state) words

abbrev pub simple_wake_at : List (List ℕ) → Result Call Reason
simple_wake_at words =
    form2 (cond_field FIRST_SIMPLE last_cond) all_at (λ cond all. call.SimpleWake cond all) words

abbrev pub complete_at : List (List ℕ) → Result Call Reason
complete_at words = form1 cell_at (λ cell. call.Complete cell) words

abbrev pub complete_all_at : List (List ℕ) → Result Call Reason
complete_all_at words = form1 cell_at (λ cell. call.CompleteAll cell) words

abbrev pub reinit_at : List (List ℕ) → Result Call Reason
reinit_at words = form1 cell_at (λ cell. call.Reinit cell) words

abbrev pub wait_for_at : List (List ℕ) → Result Call Reason
wait_for_at words = form2 cell_at state_at (λ cell state. call.WaitFor cell state) words

abbrev pub try_wait_at : List (List ℕ) → Result Call Reason
try_wait_at words = form1 cell_at (λ cell. call.TryWait cell) words

abbrev pub is_done_at : List (List ℕ) → Result Call Reason
is_done_at words = form1 cell_at (λ cell. call.IsDone cell) words

abbrev pub try_bit_at : List (List ℕ) → Result Call Reason
try_bit_at words = form1 bit_at (λ b. call.TryBit b.0 b.1) words

abbrev pub wait_bit_at : List (List ℕ) → Result Call Reason
wait_bit_at words = form2 bit_at state_at (λ b state. call.WaitBit b.0 b.1 state) words

abbrev pub lock_bit_at : List (List ℕ) → Result Call Reason
lock_bit_at words = form2 bit_at state_at (λ b state. call.LockBit b.0 b.1 state) words

abbrev pub clear_bit_at : List (List ℕ) → Result Call Reason
clear_bit_at words = form1 bit_at (λ b. call.ClearBit b.0 b.1) words

abbrev pub wait_var_at : List (List ℕ) → Result Call Reason
wait_var_at words = form3 var_at value_at state_at (λ var old state. call.WaitVar var old state) words

abbrev pub set_var_at : List (List ℕ) → Result Call Reason
set_var_at words = form2 var_at value_at (λ var value. call.SetVar var value) words

abbrev pub lock_page_at : List (List ℕ) → Result Call Reason
lock_page_at words = form2 page_at state_at (λ word state. call.LockPage word state) words

-- the calls that all versions have, by their names
abbrev pub shared_forms : Version → List (List ℕ × (List (List ℕ) → Result Call Reason))
shared_forms version =
    (codes "wait", wait_at)
    ∷ (codes "set", set_at)
    ∷ (codes "take", take_at)
    ∷ (codes "read", read_at)
    ∷ (codes "wake", wake_at version)
    ∷ (codes "add", add_at)
    ∷ (codes "remove", remove_at)
    ∷ (codes "woken", woken_at)
    ∷ (codes "signal", signal_at version)
    ∷ (codes "accept", accept_at)
    ∷ (codes "kick", kick_at version)
    ∷ (codes "swait", simple_wait_at)
    ∷ (codes "swake", simple_wake_at)
    ∷ (codes "complete", complete_at)
    ∷ (codes "completeall", complete_all_at)
    ∷ (codes "reinit", reinit_at)
    ∷ (codes "waitfor", wait_for_at)
    ∷ (codes "trywait", try_wait_at)
    ∷ (codes "isdone", is_done_at)
    ∷ (codes "trybit", try_bit_at)
    ∷ (codes "waitbit", wait_bit_at)
    ∷ (codes "lockbit", lock_bit_at)
    ∷ (codes "clearbit", clear_bit_at)
    ∷ (codes "waitvar", wait_var_at)
    ∷ (codes "setvar", set_var_at)
    ∷ []

-- the calls that a version has besides those
abbrev pub further_forms : Version → List (List ℕ × (List (List ℕ) → Result Call Reason))
further_forms One = []
further_forms Two = (codes "lockpage", lock_page_at) ∷ []

-- the calls of a version
abbrev pub call_forms : Version → List (List ℕ × (List (List ℕ) → Result Call Reason))
call_forms version = shared_forms version ++ further_forms version

-- a call by a table of names
abbrev pub call_in : List (List ℕ × (List (List ℕ) → Result Call Reason)) → List ℕ → List (List ℕ)
    → Result Call Reason
call_in [] name rest = Err UnknownWord
call_in (entry ∷ table) name rest = if bytes_eq name entry.0 then entry.1 rest else call_in table name rest

abbrev pub named_at : Version → List ℕ → List (List ℕ) → Result Call Reason
named_at version name rest = call_in (call_forms version) name rest

-- an `add` with `prio` in its place
abbrev pub is_priority_add : List ℕ → List (List ℕ) → Bool
is_priority_add name (cond ∷ kind ∷ form ∷ more) = bytes_eq name (codes "add") && bytes_eq form (codes "prio")
is_priority_add name words = false

-- the last task that may make a call: priority entries belong to the first tasks alone
abbrev pub last_of : Version → List ℕ → List (List ℕ) → ℕ
last_of version name rest = if is_priority_add name rest then last_priority_task else last_task version

-- how each field and each call is spelled
abbrev pub cond_word : ℕ → List ℕ
cond_word cond = codes "c" ++ decimal cond

abbrev pub cell_word : ℕ → List ℕ
cell_word cell = codes "d" ++ decimal cell

abbrev pub var_word : ℕ → List ℕ
var_word var = codes "v" ++ decimal var

abbrev pub page_word : ℕ → List ℕ
page_word word = codes "b" ++ decimal word

abbrev pub state_word : SleepState → List ℕ
state_word Uninterruptible = codes "plain"
state_word Interruptible = codes "int"
state_word Killable = codes "kill"

abbrev pub how_word : How → List ℕ
how_word how = state_word how.state ++ (if how.exclusive then codes "-ex" else [])

abbrev pub mode_word : Mode → List ℕ
mode_word mode.Interruptible = codes "int"
mode_word mode.Normal = codes "normal"

-- no call is spelled with another kind
abbrev pub kind_word : Kind → List ℕ
kind_word kind.Default = codes "default"
kind_word kind.Woken = codes "woken"
kind_word _ = []

abbrev pub fatal_word : Bool → List ℕ
fatal_word true = codes "fatal"
fatal_word false = codes "plain"

abbrev pub extent_word : Bool → List ℕ
extent_word true = codes "all"
extent_word false = codes "one"

-- the words of a call
abbrev pub call_words : Call → List (List ℕ)
call_words (call.Wait cond how) = codes "wait" ∷ cond_word cond ∷ how_word how ∷ []
call_words (call.Set cond value) = codes "set" ∷ cond_word cond ∷ decimal value ∷ []
call_words (call.Take cond) = codes "take" ∷ cond_word cond ∷ []
call_words (call.Read cond) = codes "read" ∷ cond_word cond ∷ []
call_words (call.Wake cond mode count) = codes "wake" ∷ cond_word cond ∷ mode_word mode ∷ decimal count ∷ []
call_words (call.Add cond kind form) = codes "add" ∷ cond_word cond ∷ kind_word kind ∷ form_text form ∷ []
call_words call.Remove = codes "remove" ∷ []
call_words (call.Woken state) = codes "woken" ∷ state_word state ∷ []
call_words (call.Signal who fatal) = codes "signal" ∷ decimal who ∷ fatal_word fatal ∷ []
call_words call.Accept = codes "accept" ∷ []
call_words (call.Kick who) = codes "kick" ∷ decimal who ∷ []
call_words (call.SimpleWait cond state) = codes "swait" ∷ cond_word cond ∷ state_word state ∷ []
call_words (call.SimpleWake cond all) = codes "swake" ∷ cond_word cond ∷ extent_word all ∷ []
call_words (call.Complete cell) = codes "complete" ∷ cell_word cell ∷ []
call_words (call.CompleteAll cell) = codes "completeall" ∷ cell_word cell ∷ []
call_words (call.Reinit cell) = codes "reinit" ∷ cell_word cell ∷ []
call_words (call.WaitFor cell state) = codes "waitfor" ∷ cell_word cell ∷ state_word state ∷ []
call_words (call.TryWait cell) = codes "trywait" ∷ cell_word cell ∷ []
call_words (call.IsDone cell) = codes "isdone" ∷ cell_word cell ∷ []
call_words (call.TryBit word bit) = codes "trybit" ∷ bit_text word bit ∷ []
call_words (call.WaitBit word bit state) = codes "waitbit" ∷ bit_text word bit ∷ state_word state ∷ []
call_words (call.LockBit word bit state) = codes "lockbit" ∷ bit_text word bit ∷ state_word state ∷ []
call_words (call.LockPage word state) = codes "lockpage" ∷ page_word word ∷ state_word state ∷ []
call_words (call.ClearBit word bit) = codes "clearbit" ∷ bit_text word bit ∷ []
call_words (call.WaitVar var old state) = codes "waitvar" ∷ var_word var ∷ decimal old ∷ state_word state ∷ []
call_words (call.SetVar var value) = codes "setvar" ∷ var_word var ∷ decimal value ∷ []
