-- To be believed.
-- Whom a hold is to rouse: the tasks that its wakes found in a state which the mask meets, and not runnable.
use Rattle.std.specs.Prelude.{ℕ, ◌+◌, ◌≡◌, ◌≤◌, ◌++◌, ◌∷◌, [], List, length, if◌then◌else◌}
use Rattle.wait_model.specs.declared.steps.Step.{Step}
use Rattle.wait_model.specs.declared.steps.Step.TheVariants as step
use Rattle.wait_rule.specs.{Known.Known, Says.history_of, Tried.rouses}
use Rattle.wq_head.specs.declared.rousing.Rousing.{Rousing}

-- whom a step woke whose thread may be parked
abbrev pub roused_by : Step → List ℕ
roused_by (step.Wake who mask found) = if rouses mask found then who ∷ [] else []
roused_by _ = []

-- the same of a history, in the order of its wakes
abbrev pub roused : List Step → List ℕ
roused [] = []
roused (e ∷ es) = roused_by e ++ roused es

-- the tasks of a list that are still to be roused
abbrev pub tasks_in : Rousing → List ℕ
tasks_in r = r.tasks.items

-- the task has woken nobody since whose thread may be parked
abbrev pub RousesNone : Known → Known → Type 0
RousesNone old new = roused (history_of new) ≡ roused (history_of old)

-- since it was at `base` the task has woken these, in this order
unfoldable pub IsRousing : Known → Known → Rousing → Type 0
IsRousing base now r = roused (history_of now) ≡ roused (history_of base) ++ tasks_in r

-- The list still tells whom the task has woken since, and it has one more at most. It is a task of the same Domain.
pub record HasRoused (old new : Known) (before after : Rousing) : Type 0 where
  pub domain : new.domain ≡ old.domain
  pub tells : (base : Known) → IsRousing base old before → IsRousing base new after
  pub room : length (tasks_in after) ≤ length (tasks_in before) + 1
