-- To be believed.
-- The wakes that a task owes: contracts name those that are computed from its history, and these are the ones that the
-- history says plainly that it owes, also where a walk broke and went on from its bookmark.
use Rattle.std.specs.Prelude.{ℕ, ◌≡◌, true, List}
use Rattle.wait_model.specs.{declared.watches.Watch.Watch, Tasks.meets, Watches.mask_of, Tables.Table}
use Rattle.wait_model.specs.Owed.{Owes as OwesWake}
use Rattle.wait_model.specs.declared.watches.Mode.TheVariants as mode
use Rattle.wait_rule.specs.{declared.journal.Item.Item, Known.Known, Rule.IsRuled}
use Rattle.wait_rule.specs.Says.{IsClean, history_of, told_of}

-- the wakes that the task owes by what is computed are those that it owes by its history
pub record OwesAsTold (k : Known) (c : Watch) (σ : ℕ) : Type 0 where
  pub plain : (told_of k).duty.owes c σ ≡ true → OwesWake (history_of k) c σ
  pub computed : OwesWake (history_of k) c σ → (told_of k).duty.owes c σ ≡ true

-- So it is of each task whose list is in a table that meets the rule.
abbrev pub RuleTellsDebts : Type 0
RuleTellsDebts = (s : Table) (items : ℕ → List Item) → IsRuled s items → (t : ℕ) (k : Known)
    → items t ≡ k.view.items → (c : Watch) (σ : ℕ) → OwesAsTold k c σ

-- Such a task that is clean owes no wake to anybody in a state that wakes meet.
abbrev pub CleanOwesNothing : Type 0
CleanOwesNothing = (s : Table) (items : ℕ → List Item) → IsRuled s items → (t : ℕ) (k : Known)
    → items t ≡ k.view.items → IsClean k → (c : Watch) (σ : ℕ) → meets (mask_of mode.Normal) σ ≡ true
    → OwesWake (history_of k) c σ → ⊥
