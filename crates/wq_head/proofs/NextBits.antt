-- The next set bit of a word.
use Rattle.std.proofs.Common.{◌∙◌, ap, sym, inl, inr, arith, w64}
use Rattle.std.proofs.Math.Nat.{div-div-eq-div-mul}
use Rattle.std.proofs.lemmas.Nat.{pow-add}
use Rattle.std.proofs.lemmas.Nat.Bits.{bit_at-trailing_zeros, bit_at-zero, bit_at_above}
use Rattle.std.specs.Int as int
use Rattle.std.specs.Prelude.{ℕ, ◌≡◌, ◌<◌, ◌≤◌, ◌+◌, ◌-◌, ◌/◌, ◌%◌, ◌^◌, true, false, ◌==◌}
use Rattle.wait_model.specs.{declared.layout.TheConstants.WORD_BITS, Words.bit_at}
use Rattle.wq_head.proofs.FirstAndLast.{below_or}

-- a bit of a word that was shifted
shifted : (w a i : ℕ) → int.bit_at (w / 2 ^ a) i ≡ int.bit_at w (a + i)
shifted w a i = ap (λ (n : ℕ). n % 2) (div-div-eq-div-mul w (2 ^ a) (2 ^ i)
    ∙ ap (λ (p : ℕ). w / p) (sym (pow-add 2 a i)))

clear_at : (w b : ℕ) → int.bit_at w b ≡ 0 → bit_at w b ≡ false
unfolding bit_at
clear_at w b is = ap (λ (n : ℕ). n == 1) is

set_at : (w b : ℕ) → int.bit_at w b ≡ 1 → bit_at w b ≡ true
unfolding bit_at
set_at w b is = ap (λ (n : ℕ). n == 1) is

-- from a bit on, and below one
clear_from : (w from b : ℕ) → from ≤ b → int.bit_at (w / 2 ^ from) (b - from) ≡ 0 → bit_at w b ≡ false
clear_from w from b low is = clear_at w b (ap (int.bit_at w) (let e : b ≡ from + (b - from) = omega arith in e)
    ∙ (sym (shifted w from (b - from)) ∙ is))

pub none_from : (w from b : ℕ) → w / 2 ^ from ≡ 0 → from ≤ b → bit_at w b ≡ false
none_from w from b is low = clear_from w from b low (ap (λ (n : ℕ). int.bit_at n (b - from)) is
    ∙ bit_at-zero (b - from))

module _ (w from : ℕ) (small : w < 2 ^ 64) (some : 0 < w / 2 ^ from) (fits : w / 2 ^ from < 2 ^ 64) where
  abbrev zeros : ℕ
  zeros = int.trailing_zeros w64 (w / 2 ^ from)

  pub next_low : from + zeros < WORD_BITS
  next_low = elim (below_or (from + zeros) WORD_BITS) [
    | inl under ↦ under
    | inr over ↦
        let one : int.bit_at (w / 2 ^ from) zeros ≡ 1 = (bit_at-trailing_zeros w64 (w / 2 ^ from) some fits).1 in
        let none : int.bit_at w (from + zeros) ≡ 0 = bit_at_above w WORD_BITS (from + zeros) small over in
        let same = shifted w from zeros in
        absurd (omega (arith, one, none, same))
  ]

  pub next_clear : (b : ℕ) → from ≤ b → b < from + zeros → bit_at w b ≡ false
  next_clear b low high = clear_from w from b low
      ((bit_at-trailing_zeros w64 (w / 2 ^ from) some fits).2 (b - from) (omega arith))

  pub next_set : bit_at w (from + zeros) ≡ true
  next_set = set_at w (from + zeros)
      (sym (shifted w from zeros) ∙ (bit_at-trailing_zeros w64 (w / 2 ^ from) some fits).1)
