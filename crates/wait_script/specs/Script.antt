-- To be believed.
-- What bytes say as a script, or the first bad line and its first reason.
use Rattle.std.specs.Prelude.{◌≡◌, ℕ, ◌+◌, List, [], ◌∷◌, Result, Ok, Err, Bool, if◌then◌else◌, ◌==◌, length}
use Rattle.std.specs.List.{slice_split}
use Rattle.wait_script.specs.{declared.line.Line.Line, declared.script.ReadScript.ReadScript}
use Rattle.wait_script.specs.declared.script.ReadScript.TheVariants.{Bad}
use Rattle.wait_script.specs.{declared.script.ReadScript.TheVariants.OutOfMemory, declared.reason.Reason.Reason}
use Rattle.wait_script.specs.{declared.reason.Reason.TheVariants.CutLine, declared.reason.Reason.TheVariants.NoHeader}
use Rattle.wait_script.specs.declared.version.Version.{Version}
use Rattle.wait_script.specs.Lines.{VersionedLines, header_at, line_at}

abbrev pub is_end : ℕ → Bool
is_end b = b == 10

-- the lines, and after them what no 0x0A ends
abbrev pub parts_of : List ℕ → List (List ℕ)
parts_of bytes = slice_split is_end bytes

-- a line and those after it
abbrev pub and_lines : ℕ → Result Line Reason → Result (List Line) (ℕ × Reason) → Result (List Line) (ℕ × Reason)
and_lines number (Err why) more = Err (number, why)
and_lines number (Ok line) (Ok lines) = Ok (line ∷ lines)
and_lines number (Ok line) (Err bad) = Err bad

-- the lines from a number on
abbrev pub lines_from : Version → ℕ → List (List ℕ) → Result (List Line) (ℕ × Reason)
lines_from version number [] = Ok []
lines_from version number (part ∷ []) = if length part == 0 then Ok [] else Err (number, CutLine)
lines_from version number (part ∷ next ∷ more) = and_lines number (line_at version part)
    (lines_from version (number + 1) (next ∷ more))

-- lines under their version
abbrev pub versioned : Version → Result (List Line) (ℕ × Reason) → Result VersionedLines (ℕ × Reason)
versioned version (Ok lines) = Ok (record { version = version; lines = lines })
versioned version (Err bad) = Err bad

-- the lines after line 1, which says their version
abbrev pub under : Result Version Reason → List (List ℕ) → Result VersionedLines (ℕ × Reason)
under (Ok version) parts = versioned version (lines_from version 2 parts)
under (Err why) parts = Err (1, why)

-- the header, and the lines after it
abbrev pub headed : List (List ℕ) → Result VersionedLines (ℕ × Reason)
headed [] = Err (1, NoHeader)
headed (header ∷ []) = if length header == 0 then Err (1, NoHeader) else Err (1, CutLine)
headed (header ∷ next ∷ more) = under (header_at header) (next ∷ more)

abbrev pub script_of : List ℕ → Result VersionedLines (ℕ × Reason)
script_of bytes = headed (parts_of bytes)

-- An answer seen by a view is what reading gives, unless memory ran out.
abbrev pub Refuses : {A : Type 0} → ReadScript → Result A (ℕ × Reason) → Type 0
Refuses (Bad line why) read = read ≡ Err (line, why)
Refuses OutOfMemory read = Unit {0}

abbrev pub AnswersAs : {S A : Type 0} → (S → A) → Result S ReadScript → Result A (ℕ × Reason) → Type 0
AnswersAs view (Ok s) read = read ≡ Ok (view s)
AnswersAs view (Err e) read = Refuses e read

-- The answer is this script, unless memory ran out.
abbrev pub IsReadAs : VersionedLines → Result VersionedLines ReadScript → Type 0
IsReadAs script (Ok read) = read ≡ script
IsReadAs script (Err e) = e ≡ OutOfMemory
