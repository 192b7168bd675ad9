-- To be believed.
-- The tallies of pages: what the lists of tasks add to each, and what its word shows.
use Rattle.std.specs.Prelude.{ℕ, ◌≡◌, ◌+◌, ◌%◌, ◌^◌, ◌==◌, if◌then◌else◌, List, [], ◌∷◌}
use Rattle.wait_model.specs.{declared.layout.TheConstants.TASKS, Totals.sum_below}
use Rattle.wait_model.specs.Locations as place
use Rattle.wait_rule.specs.declared.journal.Item.{Item}
use Rattle.wait_rule.specs.declared.journal.Item.TheVariants as item

-- the amount that an item adds to the tally of a page
abbrev pub amount_of : ℕ → Item → ℕ
amount_of p (item.Tally q n w) = if q == p then n else 0
amount_of p _ = 0

-- the sum of the amounts of a list
abbrev pub amounts_of : ℕ → List Item → ℕ
amounts_of p [] = 0
amounts_of p (x ∷ xs) = amount_of p x + amounts_of p xs

-- and of the lists of all tasks
abbrev pub tally_of : ℕ → (ℕ → List Item) → ℕ
tally_of p items = sum_below TASKS (λ t. amounts_of p (items t))

-- The word of each tally is the sum of all amounts that tasks added to it, modulo 2^64.
abbrev pub AreTallies : (ℕ → List Item) → (place.Location → ℕ) → Type 0
AreTallies items beside = (p : ℕ) → beside (place.Tally p) ≡ tally_of p items % 2 ^ 64
