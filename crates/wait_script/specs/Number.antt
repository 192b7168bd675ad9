-- To be believed.
-- How a number is spelled.
use Rattle.std.specs.Prelude.{ℕ, ◌^◌, List, [], ◌∷◌, Option, Some, None, Bool, true, false, ◌&&◌, nat_lt, if◌then◌else◌}
use Rattle.std.specs.Prelude.{◌==◌, length}
use Rattle.std.specs.Str.{all_ascii_digits}
use Rattle.std.specs.Str.Parse.{digits_value}

-- no sign, and no zero in front of more digits
abbrev pub is_plain : List ℕ → Bool
is_plain [] = true
is_plain (c ∷ cs) = if c == 43 then false else (if c == 48 then length cs == 0 else true)

-- decimal digits without a leading zero but `0` itself
abbrev pub is_numeral : List ℕ → Bool
is_numeral word = all_ascii_digits word && nat_lt 0 (length word) && is_plain word

-- a number of 64 bits
abbrev pub numeral_value : List ℕ → Option ℕ
numeral_value word = if is_numeral word && nat_lt (digits_value 10 word) (2 ^ 64) then Some (digits_value 10 word)
    else None
