-- Numbers as the digits that are put after a text one by one, and how many they are.
use Rattle.std.proofs.Common.{◌≡◌, ℕ, ◌+◌, ◌<◌, ◌≤◌, ◌/◌, ◌%◌, ◌^◌, List, [], ◌∷◌, ◌++◌, length, decimal, ap, ◌∙◌}
use Rattle.std.proofs.Common.{arith, append_assoc}
use Rattle.std.proofs.lemmas.Fmt.{decimal_digit, decimal_step, length-decimal-le}

-- a piece and one after it are a text
pub joined : (old one two a b text : List ℕ) → one ≡ old ++ a → two ≡ one ++ b → text ≡ a ++ b → two ≡ old ++ text
joined old one two a b text p q r = rw (q, p, r) (append_assoc old a b)

pub two_digits : (n : ℕ) → 10 ≤ n → n < 100 → decimal n ≡ (48 + n / 10) ∷ (48 + n % 10) ∷ []
two_digits n from below =
    decimal_step n from (omega arith)
    ∙ ap (λ ds. ds ++ ((48 + n % 10) ∷ [])) (decimal_digit (n / 10) (omega arith))

pub three_digits : (n : ℕ) → 100 ≤ n → n < 1000 → decimal n ≡ decimal (n / 10) ++ ((48 + n % 10) ∷ [])
three_digits n from below = decimal_step n (omega arith) (omega arith)

pub length_one : (n : ℕ) → n < 10 → length (decimal n) ≡ 1
length_one n below = ap length (decimal_digit n below)

pub length_two : (n : ℕ) → 10 ≤ n → n < 100 → length (decimal n) ≡ 2
length_two n from below = ap length (two_digits n from below)

pub length_three : (n : ℕ) → 100 ≤ n → n < 1000 → length (decimal n) ≡ 3
length_three n from below =
    ap length (three_digits n from below)
    ∙ ap (λ ds. length (ds ++ ((48 + n % 10) ∷ []))) (two_digits (n / 10) (omega arith) (omega arith))

pub short_length : (n : ℕ) → n < 2 ^ 16 → length (decimal n) ≤ 5
short_length n fits = length-decimal-le 5 n (omega arith) (omega arith) (omega arith)

pub long_length : (n : ℕ) → n < 2 ^ 64 → length (decimal n) ≤ 20
long_length n fits = length-decimal-le 20 n (omega arith) (omega arith) (omega arith)
