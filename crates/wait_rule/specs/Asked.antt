-- To be believed.
-- What a task's own list tells of the page that it waits for: that its entry for the page is queued, and that a walk
-- has taken the page for it.
use Rattle.std.specs.Prelude.{ℕ, Bool, true, false, ◌==◌, if◌then◌else◌, Option, Some, None, List, [], ◌∷◌}
use Rattle.wait_model.specs.{declared.steps.Step.Step, Words.entry_of, Fold.is_off}
use Rattle.wait_model.specs.Watches.{was_clear, word_of, is_page, page}
use Rattle.wait_model.specs.declared.steps.Step.TheVariants as step
use Rattle.wait_rule.specs.declared.journal.Item.{Item}
use Rattle.wait_rule.specs.declared.journal.Item.TheVariants as item

-- Nothing; its entry of this index is queued for this page; or the page was taken for it by a walk that called that
-- entry, and it has not taken note of the page yet.
pub data Asked : Type 0 where
  nothing_asked : Asked
  waits_for : ℕ → ℕ → Asked
  was_given : ℕ → ℕ → Asked

-- A page entry that its task has not taken off itself, and that is off, was taken off by a walk that took the page for
-- the task. So the task knows of the page once it finds the entry off, and of a page that it took for itself at once.
abbrev pub given_if : Bool → ℕ → Asked → Asked
given_if true x (waits_for y p) = if y == x then was_given y p else waits_for y p
given_if _ x k = k

-- it took the entry off itself
abbrev pub took_off : ℕ → Asked → Asked
took_off x (waits_for y p) = if y == x then nothing_asked else waits_for y p
took_off x k = k

-- it took note of the page, which it keeps from then on
abbrev pub took_note : ℕ → Asked → Asked
took_note x (was_given y p) = if y == x then nothing_asked else was_given y p
took_note x k = k

abbrev pub ask_step : Step → Asked → Asked
ask_step (step.Queue x e) k = if is_page e.kind then waits_for x (word_of e.watch) else k
ask_step (step.Saw x w) k = given_if (is_off (entry_of w)) x k
ask_step (step.Peek x w) k = given_if (is_off (entry_of w)) x k
ask_step (step.Unqueue x) k = took_off x k
ask_step (step.TasFor x p r) k = given_if (was_clear (page p) r) x k
ask_step (step.Unflag x o) k = took_note x k
ask_step _ k = k

abbrev pub after_item : Item → Asked → Asked
after_item (item.Made e) k = ask_step e k
after_item _ k = k

-- what more items tell of it, and what a list does; both have the oldest item first
abbrev pub asked_from : Asked → List Item → Asked
asked_from k [] = k
asked_from k (x ∷ xs) = asked_from (after_item x k) xs

abbrev pub asked_by_items : List Item → Asked
asked_by_items xs = asked_from nothing_asked xs

-- the page for which the entry of this index is queued, and the one that was taken for its task
abbrev pub waits_at : ℕ → Asked → Option ℕ
waits_at x (waits_for y p) = if y == x then Some p else None
waits_at x _ = None

abbrev pub was_given_at : ℕ → Asked → Option ℕ
was_given_at x (was_given y p) = if y == x then Some p else None
was_given_at x _ = None

abbrev pub is_asking : Asked → Bool
is_asking nothing_asked = false
is_asking _ = true

-- what each task asks for, by its list
abbrev pub all_asked : (ℕ → List Item) → ℕ → Asked
all_asked items t = asked_by_items (items t)
