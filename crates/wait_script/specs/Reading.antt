-- For proofs alone.
-- What the functions that read a script tell one another.
use Rattle.std.specs.Prelude.{◌≡◌, ℕ, ◌+◌, ◌^◌, List, Option, Some, None, Result, Bool, ◌||◌, nat_le, nat_lt}
use Rattle.std.specs.Prelude.{if◌then◌else◌}
use Rattle.std.specs.Str.{all_ascii_digits}
use Rattle.std.specs.Str.Parse.{digits_value}
use Rattle.wait_script.specs.{declared.line.Line.Line, declared.reason.Reason.Reason, declared.version.Version.Version}
use Rattle.wait_script.specs.Script.{parts_of, and_lines, lines_from}

-- what ends a word: the space, and a byte that is no plain text
abbrev pub is_stop : ℕ → Bool
is_stop b = nat_le b 32 || nat_lt 126 b

-- a number, where it has 64 bits
abbrev pub fitting : ℕ → Option ℕ
fitting n = if nat_lt n (2 ^ 64) then Some n else None

-- what digits spell, a leading zero or not
abbrev pub digits_of : List ℕ → Option ℕ
digits_of word = if all_ascii_digits word then fitting (digits_value 10 word) else None

-- the first line that bytes have says this, and after its end they go on so
abbrev pub IsFirstLine : Version → List ℕ → Result Line Reason → List ℕ → Type 0
IsFirstLine version bytes line more =
    (number : ℕ) → lines_from version number (parts_of bytes)
    ≡ and_lines number line (lines_from version (number + 1) (parts_of more))
