-- To be believed.
-- What a tally tells: the sum of all amounts that tasks added to it, in each scene that meets the rule, and by the
-- lists of a task that has joined all others; and how that sum is counted.
use Rattle.std.specs.Prelude.{ℕ, ◌≡◌, ◌+◌, ◌%◌, ◌^◌, ◌<◌, true, List, slice_index}
use Rattle.wait_model.specs.{declared.layout.TheConstants.PAGES, declared.layout.TheConstants.TASKS}
use Rattle.wait_model.specs.{Locations.position_of, declared.points.Next.Next}
use Rattle.wait_model.specs.Locations as place
use Rattle.wait_rule.specs.{declared.journal.Item.Item, declared.journal.Journal.Journal, Known.Known}
use Rattle.wait_rule.specs.{Tallies.amounts_of, Tallies.tally_of, Rule.Law, Says.FindsTally, TableLaws.HasAll}
use Rattle.wait_rule.specs.Journals.{Scene, owns, has_of, pushed, fresh, left_with, joined_with}
use Rattle.wait_rule.specs.Transitions.{Program, Transition, Goes}

-- The word of a page's tally is the sum of all amounts in the lists of all tasks, modulo 2^64.
abbrev pub RuleSumsTallies : Type 0
RuleSumsTallies = (c : Scene) → Law c → (p : ℕ) → p < PAGES
    → slice_index c.words (position_of (place.Tally p)) ≡ tally_of p c.items % 2 ^ 64

-- the sum of all amounts in the lists of a journal
abbrev pub tally_in : ℕ → Journal → ℕ
tally_in p v = tally_of p (λ t. has_of t v)

-- The journal has the lists of all tasks. Then the number that was found is the sum of all amounts in these lists,
-- modulo 2^64.
abbrev pub AllSumTallies : Type 0
AllSumTallies = (v : Journal) (p w : ℕ) → FindsTally v p w → HasAll v → w ≡ tally_in p v % 2 ^ 64

-- A journal counts what its task adds, and who joins another counts what that one has. One that was cut off counts
-- nothing, and who cut it off counts what it did.
abbrev pub AddsCount : Type 0
AddsCount = (v : Journal) (p : ℕ) (xs : List Item) → v.lives ≡ true → v.number < TASKS
    → tally_in p (pushed v xs) ≡ tally_in p v + amounts_of p xs

abbrev pub JoinsCount : Type 0
JoinsCount = (v w : Journal) (p : ℕ) → w.lives ≡ true
    → tally_in p (joined_with v w) ≡ tally_in p v + tally_in p w

abbrev pub NewcomersCountNone : Type 0
NewcomersCountNone = (number next spare p : ℕ) → tally_in p (fresh number next spare) ≡ 0

abbrev pub ForksCountNone : Type 0
ForksCountNone = (v : Journal) (share p : ℕ) → tally_in p (left_with share v) ≡ tally_in p v

-- A task that goes through a program adds to no tally.
abbrev pub ProgramsAddNone : Type 0
ProgramsAddNone = (f : Program) (old : Known) (n : Next) (ts : List Transition) (new : Known) (m : Next) (p : ℕ)
    → Goes f old n ts new m → tally_in p new.view ≡ tally_in p old.view

-- And it has the numbers that it had, its own, spare and joined ones: so who has joined all has joined all.
abbrev pub ProgramsKeepNumbers : Type 0
ProgramsKeepNumbers = (f : Program) (old : Known) (n : Next) (ts : List Transition) (new : Known) (m : Next) (t : ℕ)
    → Goes f old n ts new m → owns t new.view ≡ owns t old.view
