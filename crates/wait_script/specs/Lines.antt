-- To be believed.
-- What a line says, or the first reason why it says nothing.
use Rattle.std.specs.Prelude.{ℕ, List, [], ◌∷◌, Result, Ok, Err, Bool, ◌&&◌, nat_le, nat_lt, if◌then◌else◌, length}
use Rattle.std.specs.Prelude.{codes}
use Rattle.std.specs.List.{list_all}
use Rattle.std.specs.Str.{bytes_eq}
use Rattle.wait_model.specs.declared.layout.TheConstants.{EVENTS, LINE_BYTES}
use Rattle.wait_script.specs.{declared.line.Line.Line, declared.reason.Reason.Reason, declared.version.Version.Version}
use Rattle.wait_script.specs.{declared.version.Version.TheVariants.One, declared.version.Version.TheVariants.Two}
use Rattle.wait_script.specs.{Fields.number_at, Forms.named_at, Forms.last_of, Versions.header_of, Versions.last_task}
use Rattle.wait_script.specs.declared.reason.Reason.TheVariants.{LongLine, BadByte, NoHeader, UnknownWord, WordCount}
use Rattle.wait_script.specs.Words.{words_of, both_of, made_of}
use Rattle.wait_script.specs.declared.line.Line.TheVariants as line

-- a script: the version of its grammar, and the lines after its header
pub record VersionedLines : Type 0 where
  pub version : Version
  pub lines : List Line

-- `step TASK COUNT`, by the words after the first
abbrev pub step_at : Version → List (List ℕ) → Result Line Reason
step_at version (task ∷ count ∷ []) =
    made_of (λ f. line.Step f.0 f.1) (both_of (number_at 0 (last_task version) task) (number_at 1 EVENTS count))
step_at version words = Err WordCount

-- `call TASK NAME ..`, by the words after the first
abbrev pub call_at : Version → List (List ℕ) → Result Line Reason
call_at version (task ∷ name ∷ rest) =
    made_of (λ f. line.Call f.0 f.1)
    (both_of (number_at 0 (last_of version name rest) task) (named_at version name rest))
call_at version words = Err WordCount

-- a line by its words
abbrev pub words_at : Version → List (List ℕ) → Result Line Reason
words_at version [] = Err UnknownWord
words_at version (verb ∷ rest) =
    if bytes_eq verb (codes "call") then call_at version rest
    else (if bytes_eq verb (codes "step") then step_at version rest else Err UnknownWord)

abbrev pub is_printable : ℕ → Bool
is_printable b = nat_le 32 b && nat_le b 126

-- what the bytes of a line say, where they are neither too many nor other than plain text
abbrev pub plain_at : {A : Type 0} → (List ℕ → Result A Reason) → List ℕ → Result A Reason
plain_at says line =
    if nat_lt LINE_BYTES (length line) then Err LongLine else (if list_all is_printable line then says line
    else Err BadByte)

-- the version whose first line a text is
abbrev pub version_at : List ℕ → Result Version Reason
version_at text =
    if bytes_eq text (header_of One) then Ok One else (if bytes_eq text (header_of Two) then Ok Two else Err NoHeader)

-- line 1
abbrev pub header_at : List ℕ → Result Version Reason
header_at line = plain_at version_at line

-- a line after it
abbrev pub line_at : Version → List ℕ → Result Line Reason
line_at version line = plain_at (λ text. words_at version (words_of text)) line

-- how many events a line asks for
abbrev pub events_asked : Line → ℕ
events_asked (line.Call task call) = 0
events_asked (line.Step task count) = count
