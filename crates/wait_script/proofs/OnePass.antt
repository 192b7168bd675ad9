-- Lines of steps that are read in one pass.
use Rattle.std.proofs.Common.{◌≡◌, ℕ, ◌+◌, ◌-◌, ◌*◌, ◌<◌, ◌≤◌, ◌^◌, List, [], ◌∷◌, ◌++◌, Some, None, Bool, true, false}
use Rattle.std.proofs.Common.{cond, nat_lt, length, take, drop, get_or, decimal, codes, append_assoc, arith, refl, sym}
use Rattle.std.proofs.Common.{ap, ◌∙◌}
use mathlib.Core.Bool.{◌&&◌}
use Rattle.std.specs.Char.{is_ascii_digit, digit_value}
use Rattle.std.specs.Str.{all_ascii_digits}
use Rattle.std.specs.Str.Parse.{digits_value}
use Rattle.std.proofs.lemmas.List.{drop_more, take_more, take-append-drop}
use Rattle.std.proofs.lemmas.Int.Digits.{digits_value_more}
use Rattle.std.proofs.lemmas.Bool.Decides.{nat_tests}
use Rattle.wait_script.specs.{Number.numeral_value, Number.is_plain, Spelling.line_text}
use Rattle.wait_script.specs.declared.line.Line.TheVariants as line
use Rattle.wait_script.proofs.{ReadNumbers.number_is, ReadDigits.value_is}

all_push : (xs : List ℕ) (c : ℕ) → all_ascii_digits xs ≡ true → is_ascii_digit c ≡ true
    → all_ascii_digits (xs ++ c ∷ []) ≡ true
all_push [] c h d = ap (λ b. b && true) d
all_push (x ∷ xs) c h d =
    let p = both (is_ascii_digit x) (all_ascii_digits xs) h in
    ap (λ b. b && all_ascii_digits (xs ++ c ∷ [])) p.0 ∙ all_push xs c p.1 d
  where
    both : (a b : Bool) → (a && b) ≡ true → (a ≡ true) × (b ≡ true)
    both true b h = (refl, h)
    both false b h = absurd (cc (h))

-- the digits that are read so far, and what they are
abbrev pub IsNumberSoFar : List ℕ → ℕ → ℕ → Type 0
IsNumberSoFar bytes at value = (all_ascii_digits (take at bytes) ≡ true)
    × (value ≡ digits_value 10 (take at bytes)) × (value < 10000000)

module _ (bytes : List ℕ) (at value : ℕ) (inside : at < length bytes) (so_far : IsNumberSoFar bytes at value) where
  pub one_digit : is_ascii_digit (get_or bytes at 0) ≡ true → value ≤ 999999
      → IsNumberSoFar bytes (at + 1) (value * 10 + (get_or bytes at 0 - 48))
  one_digit d few =
      let v = value_is (get_or bytes at 0) d in
      let more = digits_value_more 10 bytes at inside in
      let low : digit_value (get_or bytes at 0) < 10 = grind (arith, nat_tests) in (
        ap all_ascii_digits (take_more bytes at 0 inside) ∙ all_push (take at bytes) (get_or bytes at 0) so_far.0 d,
        omega (arith, more, v, so_far.1),
        omega (arith, v, low, few),
      )

  pub number_ends : (end : ℕ) → get_or bytes at 0 ≡ end
      → (nat_lt 0 (length (take at bytes)) && is_plain (take at bytes)) ≡ true
      → bytes ≡ decimal value ++ end ∷ drop (at + 1) bytes
  number_ends end e whole =
      let here : numeral_value (take at bytes) ≡ Some value =
      all (all_ascii_digits (take at bytes)) (nat_lt 0 (length (take at bytes))) (is_plain (take at bytes))
      (nat_lt (digits_value 10 (take at bytes)) (2 ^ 64)) (digits_value 10 (take at bytes)) so_far.0 whole
      (small (digits_value 10 (take at bytes)) value so_far.1 so_far.2) (sym so_far.1) in
      sym (take-append-drop at bytes) ∙ ap (λ r. take at bytes ++ r) (drop_more bytes at 0 inside)
      ∙ ap (λ c. take at bytes ++ c ∷ drop (at + 1) bytes) e
      ∙ ap (λ w. w ++ end ∷ drop (at + 1) bytes) (number_is (take at bytes) value here)
    where
      all : (a b c d : Bool) (v : ℕ) → a ≡ true → (b && c) ≡ true → d ≡ true → v ≡ value
          → cond (a && b && c && d) (Some v) None ≡ Some value
      all true true true true v p q r s = ap Some s
      all true true true false v p q r s = cc
      all true true false d v p q r s = cc
      all true false c d v p q r s = cc
      all false b c d v p q r s = cc

      small : (v n : ℕ) → n ≡ v → n < 10000000 → nat_lt v (2 ^ 64) ≡ true
      small v n e h = grind (arith, nat_tests)

pub spelled : (bytes first second more : List ℕ) (task count : ℕ) → bytes ≡ codes "step " ++ first
    → first ≡ decimal task ++ 32 ∷ second → second ≡ decimal count ++ 10 ∷ more
    → bytes ≡ line_text (line.Step task count) ++ 10 ∷ more
spelled bytes first second more task count e f g =
    e ∙ ap (λ r. codes "step " ++ r)
    (f ∙ ap (λ r. decimal task ++ 32 ∷ r) g
    ∙ sym (append_assoc (decimal task) (32 ∷ decimal count) (10 ∷ more)))
