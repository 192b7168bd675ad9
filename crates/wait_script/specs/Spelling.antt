-- To be believed.
-- How a script is spelled, and which lines there are.
use Rattle.std.specs.Prelude.{◌≡◌, ℕ, ◌^◌, ◌<◌, ◌≤◌, List, [], ◌∷◌, ◌++◌, All, true, codes, decimal}
use Rattle.std.specs.List.{flat_map, join_with_byte}
use Rattle.wait_model.specs.{declared.calls.Call.Call, Admission.is_in_range, Admission.IsListed}
use Rattle.wait_model.specs.declared.layout.TheConstants.{EVENTS}
use Rattle.wait_model.specs.declared.calls.Call.TheVariants as call
pub use Rattle.wait_script.specs.Forms.{cond_word, cell_word, var_word, page_word, state_word, how_word, mode_word}
pub use Rattle.wait_script.specs.Forms.{kind_word, fatal_word, extent_word, call_words}
use Rattle.wait_script.specs.{declared.line.Line.Line, declared.version.Version.Version}
use Rattle.wait_script.specs.{declared.version.Version.TheVariants.Two, Lines.VersionedLines}
use Rattle.wait_script.specs.Versions.{header_of, last_task, most_selected}
use Rattle.wait_script.specs.declared.line.Line.TheVariants as line

abbrev pub line_words : Line → List (List ℕ)
line_words (line.Call task call) = codes "call" ∷ decimal task ∷ call_words call
line_words (line.Step task count) = codes "step" ∷ decimal task ∷ decimal count ∷ []

-- the words with a space between each two
abbrev pub line_text : Line → List ℕ
line_text l = join_with_byte 32 (line_words l)

-- the header, and the lines after it
abbrev pub script_text : VersionedLines → List ℕ
script_text script = header_of script.version ++ 10 ∷ flat_map (λ l. line_text l ++ 10 ∷ []) script.lines

-- the number of 64 bits in a call
abbrev pub number_in_call : Call → ℕ
number_in_call (call.Set cond value) = value
number_in_call (call.WaitVar var old state) = old
number_in_call (call.SetVar var value) = value
number_in_call call = 0

-- a version may have fewer tasks than a core, and wakes that select fewer entries; pages are locked in version 2 alone
abbrev pub IsOfVersion : Version → Call → Type 0
IsOfVersion version (call.Wake cond mode count) = count ≤ most_selected version
IsOfVersion version (call.Signal who fatal) = who ≤ last_task version
IsOfVersion version (call.Kick who) = who ≤ last_task version
IsOfVersion version (call.LockPage word state) = version ≡ Two
IsOfVersion version call = Unit {0}

-- the call is one that there is, and its numbers are in their ranges
abbrev pub IsFitCall : Version → ℕ → Call → Type 0
IsFitCall version task c =
    (is_in_range task c ≡ true) × IsListed c × (number_in_call c < 2 ^ 64) × IsOfVersion version c

-- the same of a line
abbrev pub IsFit : Version → Line → Type 0
IsFit version (line.Call task c) = (task ≤ last_task version) × IsFitCall version task c
IsFit version (line.Step task count) = (task ≤ last_task version) × (1 ≤ count) × (count ≤ EVENTS)

-- and of a script
abbrev pub IsFitScript : VersionedLines → Type 0
IsFitScript script = All (IsFit script.version) script.lines

-- what a core asks of a line
abbrev pub IsPlayable : Line → Type 0
IsPlayable (line.Call task c) = IsListed c
IsPlayable (line.Step task count) = Unit {0}
