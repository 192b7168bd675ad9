-- For tests alone.
-- Which calls of an object in memory fail: the definitions that the contracts of the forms in memory cite.
use Rattle.std.specs.Prelude.{◌≡◌, ◌<◌, ℕ, ◌+◌, ◌-◌, ◌^◌, List, Contains, min}

-- the numbers, from 1, of the calls that fail, how many calls were made, and how many of them failed
pub record Calls : Type 0 where
  pub numbers : List ℕ
  pub made : ℕ
  pub faults : ℕ

-- The next call fails. Its number is in the list, and can be counted in 64 bits.
abbrev pub FailsNext : Calls → Type 0
FailsNext calls = (calls.made < 2 ^ 64 - 1) × Contains calls.numbers (calls.made + 1)

-- One more call was made, up to the end of 64 bits, and the list of numbers is the same.
abbrev pub CountsCall : Calls → Calls → Type 0
CountsCall old new = (new.made ≡ min (old.made + 1) (2 ^ 64 - 1)) × (new.numbers ≡ old.numbers)

-- no call was made yet
abbrev pub IsFresh : Calls → List ℕ → Type 0
IsFresh calls numbers = (calls.numbers ≡ numbers) × (calls.made ≡ 0) × (calls.faults ≡ 0)

-- Other numbers than before, and the same calls.
abbrev pub IsRenumbered : Calls → Calls → List ℕ → Type 0
IsRenumbered old new numbers = (new.numbers ≡ numbers) × (new.made ≡ old.made) × (new.faults ≡ old.faults)
