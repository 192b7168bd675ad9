-- The words of pipes: which are apart, what they show, and which belong to one pipe.
use Rattle.std.proofs.Common.{◌≡◌, ℕ, ◌+◌, ◌/◌, ◌%◌, ◌≤◌, ◌≢◌, Bool, true, false, refl, ap, arith}
use Rattle.std.specs.Prelude.{◌==◌}
use Rattle.std.proofs.lemmas.Bool.Decides.{nat_tests}
use Rattle.wait_model.specs.{declared.layout.TheConstants.PIPE_ENDS, declared.layout.TheConstants.PIPE_CELLS}
use Rattle.wait_model.specs.{Words.flag, Locations.Location}
use Rattle.wait_model.specs.Locations as place
use Rattle.wait_rule.specs.Pipes.{write_end, read_end, cell_of, end_word, count_on}

pub test_on : (a b : ℕ) → a ≡ b → (a == b) ≡ true
test_on a b is = grind (arith, nat_tests)

pub test_off : (a b : ℕ) → a ≢ b → (a == b) ≡ false
test_off a b ne = grind (arith, nat_tests)

-- words of different kinds
pub claim_cell : (a b : ℕ) → place.Claim a ≢ place.Cell b
claim_cell a b e = absurd (cc)

pub claim_var : (a b : ℕ) → place.Claim a ≢ place.Var b
claim_var a b e = absurd (cc)

pub var_cell : (a b : ℕ) → place.Var a ≢ place.Cell b
var_cell a b e = absurd (cc)

pub var_claim : (a b : ℕ) → place.Var a ≢ place.Claim b
var_claim a b e = absurd (cc)

pub cell_claim : (a b : ℕ) → place.Cell a ≢ place.Claim b
cell_claim a b e = absurd (cc)

pub cell_var : (a b : ℕ) → place.Cell a ≢ place.Var b
cell_var a b e = absurd (cc)

number : Location → ℕ
number (place.Claim k) = k
number (place.Var k) = k
number (place.Cell k) = k
number _ = 0

pub cells_apart : (a b : ℕ) → a ≢ b → place.Cell a ≢ place.Cell b
unfolding number
cells_apart a b ne e = ne (ap number e)

pub claims_apart : (a b : ℕ) → a ≢ b → place.Claim a ≢ place.Claim b
unfolding number
claims_apart a b ne e = ne (ap number e)

pub vars_apart : (a b : ℕ) → a ≢ b → place.Var a ≢ place.Var b
unfolding number
vars_apart a b ne e = ne (ap number e)

-- counts and words
pub count_is : (seen n : ℕ) (b : Bool) → seen ≤ n → n ≤ seen + PIPE_CELLS → count_on seen (end_word n b) ≡ n
count_is seen n true low high = omega arith
count_is seen n false low high = omega arith

pub odd_is : (n : ℕ) (b : Bool) → (end_word n b % 2 == 1) ≡ b
odd_is n true = grind (arith, nat_tests)
odd_is n false = grind (arith, nat_tests)

pub none_mine : (b : Bool) → flag b ≡ 0 → b ≡ false
none_mine true is = absurd (omega arith)
none_mine false is = refl

pub some_mine : (b : Bool) → flag b ≢ 0 → flag b ≡ 1
some_mine true is = refl
some_mine false is = absurd (is refl)

-- the words of the pipe are the same
pub record SameWords (p : ℕ) (one two : Location → ℕ) : Type 0 where
  pub claims : (k : ℕ) → k / PIPE_ENDS ≡ p → two (place.Claim k) ≡ one (place.Claim k)
  pub ends : (k : ℕ) → k / PIPE_ENDS ≡ p → two (place.Var k) ≡ one (place.Var k)
  pub cells : (k : ℕ) → k / PIPE_CELLS ≡ p → two (place.Cell k) ≡ one (place.Cell k)

pub cell_in : (p n : ℕ) → cell_of p n / PIPE_CELLS ≡ p
cell_in p n = omega arith

pub write_in : (p : ℕ) → write_end p / PIPE_ENDS ≡ p
write_in p = omega arith

pub read_in : (p : ℕ) → read_end p / PIPE_ENDS ≡ p
read_in p = omega arith
