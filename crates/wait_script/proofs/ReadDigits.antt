-- What is read of digits, one after another.
use Rattle.std.proofs.Common.{◌≡◌, ℕ, ◌+◌, ◌-◌, ◌*◌, ◌<◌, ◌≤◌, ◌^◌, List, [], ◌∷◌, Option, Some, None, Bool, true}
use Rattle.std.proofs.Common.{false, cond, nat_lt, length, drop, get_or, arith, refl, sym, ap, ◌∙◌}
use mathlib.Core.Bool.{◌&&◌}
use Rattle.std.specs.Char.{is_ascii_digit, digit_value}
use Rattle.std.specs.Str.{all_ascii_digits}
use Rattle.std.specs.Str.Parse.{digits_value_after}
use Rattle.std.proofs.lemmas.List.{drop_more, at_drop_all}
use Rattle.std.proofs.lemmas.Bool.Decides.{nat_tests}
use Rattle.wait_script.specs.{Reading.fitting, Reading.digits_of}

-- what digits say after those of a number
abbrev pub reads_on : ℕ → List ℕ → Option ℕ
reads_on n ds = cond (all_ascii_digits ds) (fitting (digits_value_after 10 n ds)) None

more_digits : (ds : List ℕ) (n : ℕ) → n ≤ digits_value_after 10 n ds
more_digits [] n = omega arith
more_digits (d ∷ ds) n = omega (arith, more_digits ds (n * 10 + digit_value d))

no_digit : (n c : ℕ) (cs : List ℕ) → is_ascii_digit c ≡ false → reads_on n (c ∷ cs) ≡ None
no_digit n c cs e = ap (λ b. cond (b && all_ascii_digits cs) (fitting (digits_value_after 10 n (c ∷ cs))) None) e

pub value_is : (c : ℕ) → is_ascii_digit c ≡ true → digit_value c ≡ c - 48
value_is c e = grind (arith, nat_tests)

one_digit : (n c : ℕ) (cs : List ℕ) → is_ascii_digit c ≡ true
    → reads_on n (c ∷ cs) ≡ reads_on (n * 10 + (c - 48)) cs
one_digit n c cs e =
    ap (λ b. cond (b && all_ascii_digits cs) (fitting (digits_value_after 10 n (c ∷ cs))) None) e
    ∙ ap (λ v. reads_on (n * 10 + v) cs) (value_is c e)

unfit : (b : Bool) (n m : ℕ) → n ≤ m → fitting n ≡ None → cond b (fitting m) None ≡ None
unfit false n m le e = refl
unfit true n m le e = grind (arith, nat_tests)

module _ (word : List ℕ) (i n : ℕ) (inside : i < length word) (same : reads_on n (drop i word) ≡ digits_of word) where
  at : digits_of word ≡ reads_on n (get_or word i 0 ∷ drop (i + 1) word)
  at = sym same ∙ ap (reads_on n) (drop_more word i 0 inside)

  pub stops_at : is_ascii_digit (get_or word i 0) ≡ false → None ≡ digits_of word
  stops_at e = sym (at ∙ no_digit n (get_or word i 0) (drop (i + 1) word) e)

  pub goes_on : is_ascii_digit (get_or word i 0) ≡ true
      → reads_on (n * 10 + (get_or word i 0 - 48)) (drop (i + 1) word) ≡ digits_of word
  goes_on e = sym (at ∙ one_digit n (get_or word i 0) (drop (i + 1) word) e)

  pub overflows : is_ascii_digit (get_or word i 0) ≡ true → fitting (n * 10 + (get_or word i 0 - 48)) ≡ None
      → None ≡ digits_of word
  overflows e none =
      let m = n * 10 + (get_or word i 0 - 48) in
      sym (unfit (all_ascii_digits (drop (i + 1) word)) m (digits_value_after 10 m (drop (i + 1) word))
      (more_digits (drop (i + 1) word) m) none) ∙ goes_on e

-- a number of 64 bits, when no digit is left
pub ended : (word : List ℕ) (i n : ℕ) → length word ≤ i → reads_on n (drop i word) ≡ digits_of word → n < 2 ^ 64
    → Some n ≡ digits_of word
ended word i n past same h = fits (nat_lt n (2 ^ 64)) (grind (arith, nat_tests))
    ∙ sym (at_drop_all (reads_on n) word i past) ∙ same
  where
    fits : (b : Bool) → b ≡ true → Some n ≡ cond b (Some n) None
    fits true e = refl
    fits false e = cc

pub next : (word : List ℕ) (i n m : ℕ) → i < length word → reads_on n (drop i word) ≡ digits_of word
    → is_ascii_digit (get_or word i 0) ≡ true → fitting (n * 10 + (get_or word i 0 - 48)) ≡ Some m
    → reads_on m (drop (i + 1) word) ≡ digits_of word
next word i n m inside same e fits =
    ap (λ v. reads_on v (drop (i + 1) word)) (sym (held (nat_lt _ (2 ^ 64)) _ m fits))
    ∙ goes_on word i n inside same e
  where
    held : (b : Bool) (n m : ℕ) → cond b (Some n) None ≡ Some m → n ≡ m
    held true n m e = cc
    held false n m e = cc

pub fits : (n m : ℕ) → fitting n ≡ Some m → m < 2 ^ 64
fits n m e = held (nat_lt n (2 ^ 64)) refl e
  where
    held : (b : Bool) → nat_lt n (2 ^ 64) ≡ b → cond b (Some n) None ≡ Some m → m < 2 ^ 64
    held true p e = let same : n ≡ m = cc in grind (arith, nat_tests)
    held false p e = cc
