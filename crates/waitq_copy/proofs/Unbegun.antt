-- What a copy that did not begin leaves of its task.
use Rattle.std.proofs.Common.{refl, sym, ◌∙◌, subst}
use Rattle.std.specs.Prelude.{ℕ, ◌≡◌, ◌-◌, ◌++◌, ◌&&◌, eqb, Bool, true, false, cond, List, []}
use Rattle.atomic_table.specs.Seated.{TableId}
use Rattle.wait_model.specs.declared.layout.TheConstants.{TASKS}
use Rattle.wait_rule.specs.{declared.journal.Item.Item, Journals.has_of, Known.Known, Says.newcomer}
use Rattle.copy_ends.specs.Copied.{HasNoSteps}
use Rattle.waitq_copy.specs.Copying.{LeavesTask}
use Rattle.waitq_alone.specs.declared.fault.Fault.{Fault}
use Rattle.waitq_alone.specs.declared.fault.Fault.TheVariants as fault

-- a task that is as it was
pub task_kept : (k : Known) (why : Fault) → LeavesTask k k why
task_kept k fault.Memory = λ number. refl
task_kept k why = refl

-- one that has just come has no steps
newcomers_none : (domain : TableId) (number : ℕ) → has_of number (newcomer domain 0 1 (TASKS - 1)).view ≡ []
newcomers_none domain number = by (eqb 0 number)
  where
    nothing : List Item
    nothing = []

    by : (b : Bool) → cond (true && b) nothing [] ++ [] ≡ []
    by true = refl
    by false = refl

-- and so it was, where none has steps afterwards
pub lists_kept : (domain : TableId) (old new : Known) → old ≡ newcomer domain 0 1 (TASKS - 1) → HasNoSteps domain new
    → LeavesTask old new fault.Memory
lists_kept domain old new e idle number =
    idle.lists number
    ∙ sym (subst (λ (k : Known). has_of number k.view ≡ []) (sym e) (newcomers_none domain number))
