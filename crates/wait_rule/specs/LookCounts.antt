-- To be believed.
-- How often a task has loaded words of entries, bookmarks and members, by its list.
use Rattle.std.specs.Prelude.{ℕ, ◌≡◌, ◌+◌, ◌-◌, ◌≤◌, List, [], ◌∷◌}
use Rattle.wait_model.specs.{declared.layout.TheConstants.WORD_BITS, declared.steps.Step.Step}
use Rattle.wait_model.specs.declared.steps.Step.TheVariants as step
use Rattle.wait_rule.specs.{declared.journal.Item.Item, Known.Known}
use Rattle.wait_rule.specs.declared.journal.Item.TheVariants as item

-- The number of looks after one more step: a load of an entry word is one, and one of a member word without a lock.
abbrev pub looks_after : Step → ℕ → ℕ
looks_after (step.Peek x w) n = n + 1
looks_after (step.Saw x w) n = n + 1
looks_after (step.Scan h i w) n = n + 1
looks_after _ n = n

-- After one more item. A load of a bookmark word is one look, and so is the load of a member word in a hold: it stands
-- in place of the looks for which its bits stand, which are the last before it.
abbrev pub looks_with : Item → ℕ → ℕ
looks_with (item.Made e) n = looks_after e n
looks_with (item.Bookmark t w) n = n + 1
looks_with (item.Word w) n = n + 1 - WORD_BITS
looks_with _ n = n

-- after more items, the oldest first
abbrev pub looks_from : ℕ → List Item → ℕ
looks_from n [] = n
looks_from n (x ∷ xs) = looks_from (looks_with x n) xs

-- the looks that a task has made
abbrev pub looks_made : Known → ℕ
looks_made k = looks_from 0 k.view.items

-- It made just so many looks more, or at most so many.
abbrev pub Looked : ℕ → Known → Known → Type 0
Looked n old new = looks_made new ≡ looks_made old + n

abbrev pub LooksAtMost : ℕ → Known → Known → Type 0
LooksAtMost n old new = looks_made new ≤ looks_made old + n
