-- What `parse` reads, in the grammar's words.
use Rattle.std.proofs.Common.{◌≡◌, ℕ, List, [], ◌∷◌, Some, None, true, false, length, get_or, arith, refl, sym, ap, ◌∙◌}
use Rattle.std.proofs.Common.{cond, Bool, nat_lt, ◌^◌, ◌<◌, zero, suc, decimal}
use mathlib.Core.Bool.{◌&&◌}
use Rattle.std.specs.Str.{all_ascii_digits}
use Rattle.std.specs.Str.Parse.{digits_value}
use Rattle.std.proofs.lemmas.Str.Parse.{IsNumeralModel, numerals_by_value, tells_all_ascii_digits}
use Rattle.std.proofs.lemmas.Fmt.{decimal-digits_value, digits_decimal, digits_value-decimal, decimal_nonempty}
use Rattle.std.proofs.lemmas.Fmt.{first_decimal, decimal_digit}
use Rattle.std.proofs.lemmas.Bool.Decides.{nat_tests}
use Rattle.wait_script.specs.Number.{is_plain, numeral_value}

own : IsNumeralModel (λ ds. all_ascii_digits ds ≡ true) (digits_value 10)
own = numerals_by_value _ tells_all_ascii_digits

leading : (word : List ℕ) → is_plain word ≡ true → get_or word 0 0 ≡ 48 → length word ≡ 1
leading [] p e = absurd (omega arith)
leading (c ∷ cs) p e = grind (arith, nat_tests)

-- a word that is a number is its decimal spelling
pub number_is : (word : List ℕ) (n : ℕ) → numeral_value word ≡ Some n → word ≡ decimal n
number_is word n e =
    let f = parts (all_ascii_digits word) (nat_lt 0 (length word)) (is_plain word)
    (nat_lt (digits_value 10 word) (2 ^ 64)) (digits_value 10 word) n e in
    sym (decimal-digits_value own word f.0 (grind (arith, nat_tests)) (leading word f.2)
    (grind (arith, nat_tests))) ∙ ap decimal f.4
  where
    parts : (a b c d : Bool) (v n : ℕ) → cond (a && b && c && d) (Some v) None ≡ Some n → (a ≡ true)
        × (b ≡ true) × (c ≡ true) × (d ≡ true) × (v ≡ n)
    parts true true true true v n e = (refl, refl, refl, refl, cc)
    parts true true true false v n e = cc
    parts true true false d v n e = cc
    parts true false c d v n e = cc
    parts false b c d v n e = cc

plain_above : (word : List ℕ) → 48 < get_or word 0 0 → is_plain word ≡ true
plain_above [] h = absurd (omega arith)
plain_above (c ∷ cs) h = grind (arith, nat_tests)

plain_decimal : (n : ℕ) → n < 2 ^ 64 → is_plain (decimal n) ≡ true
plain_decimal zero h = ap is_plain (decimal_digit 0 (omega arith))
plain_decimal (suc n) h = plain_above (decimal (suc n)) (first_decimal (suc n) (omega arith) h)

-- each number of 64 bits is read from its decimal spelling
pub number_again : (n : ℕ) → n < 2 ^ 64 → numeral_value (decimal n) ≡ Some n
number_again n h =
    all (all_ascii_digits (decimal n)) (nat_lt 0 (length (decimal n))) (is_plain (decimal n))
    (nat_lt (digits_value 10 (decimal n)) (2 ^ 64)) (digits_value 10 (decimal n)) n
    (digits_decimal own n h) (some (decimal n) (decimal_nonempty n h)) (plain_decimal n h)
    (below (digits_value 10 (decimal n)) n (digits_value-decimal own n h) h)
    (digits_value-decimal own n h)
  where
    all : (a b c d : Bool) (v n : ℕ) → a ≡ true → b ≡ true → c ≡ true → d ≡ true → v ≡ n
        → cond (a && b && c && d) (Some v) None ≡ Some n
    all a b c d v n p q r s e = rw (p, q, r, s, e) refl

    some : (word : List ℕ) → 0 < length word → nat_lt 0 (length word) ≡ true
    some word h = grind (arith, nat_tests)

    below : (v n : ℕ) → v ≡ n → n < 2 ^ 64 → nat_lt v (2 ^ 64) ≡ true
    below v n e h = grind (arith, nat_tests)

-- the spelling of a number is digits
pub decimal_digits : (n : ℕ) → n < 2 ^ 64 → all_ascii_digits (decimal n) ≡ true
decimal_digits n h = digits_decimal own n h
