-- Tests that hold together.
use Rattle.std.proofs.Common.{◌≡◌, ℕ, Bool, true, false, cond, Some, None, refl}
use mathlib.Core.Bool.{◌&&◌}

pub both_true : (a b : Bool) → a ≡ true → b ≡ true → (a && b) ≡ true
both_true a b p q = rw (p, q) refl

pub parts_true : (a b : Bool) → (a && b) ≡ true → (a ≡ true) × (b ≡ true)
parts_true true true h = (refl, refl)
parts_true true false h = absurd (cc (h))
parts_true false b h = absurd (cc (h))

-- a number that is there by a test
pub some_by : (b : Bool) (m n : ℕ) → cond b (Some m) None ≡ Some n → (b ≡ true) × (m ≡ n)
some_by true m n e = (refl, cc)
some_by false m n e = cc

pub none_by : (b : Bool) (m : ℕ) → cond b (Some m) None ≡ None → b ≡ false
none_by true m e = cc
none_by false m e = refl
