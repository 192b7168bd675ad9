-- A bit set in a word, or cleared, leaves such a word.
use Rattle.std.proofs.Common.{arith}
use Rattle.std.specs.Prelude.{ℕ, ◌≡◌, ◌+◌, ◌*◌, ◌%◌, ◌^◌, ◌<◌, ◌≤◌, true, false}
use Rattle.wait_model.specs.{declared.layout.TheConstants.WORD_BITS, Functions.put, Words.bit_at, Words.bit_word}
use Rattle.wait_model.proofs.WordLaws.BitWords.{bit_word_small, bit_read, same_bits, bit_word_more, bit_word_less}

-- a word is that of its bits
pub word_of_bits : (w : ℕ) → w < 2 ^ 64 → bit_word WORD_BITS (bit_at w) ≡ w
word_of_bits w small = same_bits (bit_word WORD_BITS (bit_at w)) w (bit_word_small WORD_BITS (bit_at w)) small
    (λ k lt. bit_read (bit_at w) k lt)

pub set_fits : (w b : ℕ) → w < 2 ^ 64 → b < WORD_BITS → bit_at w b ≡ false → w + 1 * 2 ^ b % 2 ^ 64 < 2 ^ 64
set_fits w b small lt off =
    let is : bit_word WORD_BITS (bit_at w) ≡ w = word_of_bits w small in
    let more : bit_word WORD_BITS (put (bit_at w) b true) ≡ bit_word WORD_BITS (bit_at w) + 2 ^ b =
    bit_word_more (bit_at w) b lt off in
    let fits : bit_word WORD_BITS (put (bit_at w) b true) < 2 ^ 64 = bit_word_small WORD_BITS (put (bit_at w) b true) in
    omega arith

pub clear_fits : (w b : ℕ) → w < 2 ^ 64 → b < WORD_BITS → bit_at w b ≡ true → 1 * 2 ^ b % 2 ^ 64 ≤ w
clear_fits w b small lt set =
    let is : bit_word WORD_BITS (bit_at w) ≡ w = word_of_bits w small in
    let less : bit_word WORD_BITS (put (bit_at w) b false) + 2 ^ b ≡ bit_word WORD_BITS (bit_at w) =
    bit_word_less (bit_at w) b lt set in
    omega arith
