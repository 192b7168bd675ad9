-- Sums modulo 2^64, as workers keep them.
use Rattle.std.proofs.Common.{arith}
use Rattle.std.specs.Prelude.{ℕ, ◌≡◌, ◌+◌, ◌%◌, ◌^◌, ◌<◌}

pub sum_none : (m : ℕ) → m < 2 ^ 64 → m ≡ (m + 0) % 2 ^ 64
sum_none m small = omega arith

pub sum_then : (a b c n m : ℕ) → b ≡ (a + n) % 2 ^ 64 → c ≡ (b + m) % 2 ^ 64 → c ≡ (a + (n + m)) % 2 ^ 64
sum_then a b c n m one two = omega arith
