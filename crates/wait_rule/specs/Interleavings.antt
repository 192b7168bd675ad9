-- To be believed.
-- Tables to which steps of the tasks lead, one after another from the start, each allowed where it is made.
use Rattle.std.specs.Prelude.{ℕ, ◌≡◌, ◌<◌, List, [], ◌∷◌}
use Rattle.wait_model.specs.{declared.layout.TheConstants.TASKS, declared.steps.Step.Step, Permits.HandsOn}
use Rattle.wait_model.specs.Rows.{Allowed}
use Rattle.wait_model.specs.Tables.{Table, next, start}

-- one step, and whose it is
pub record TaskStep : Type 0 where
  pub task : ℕ
  pub made : Step

-- the table after such steps, the latest first
abbrev pub table_of : List TaskStep → Table
table_of [] = start
table_of (x ∷ xs) = next (table_of xs) x.task x.made

abbrev pub AreAllowed : List TaskStep → Type 0
AreAllowed [] = Unit {0}
AreAllowed (x ∷ xs) = (x.task < TASKS) × Allowed (table_of xs) x.task x.made × AreAllowed xs

-- each step meets the model's conditions on permits of completions where it is made
abbrev pub AreHanded : List TaskStep → Type 0
AreHanded [] = Unit {0}
AreHanded (x ∷ xs) = HandsOn (table_of xs) x.task x.made × AreHanded xs

-- some order of steps of all tasks leads to the table, in which each step hands permits on
pub record IsInterleaved (s : Table) : Type 0 where
  pub steps : List TaskStep
  pub allowed : AreAllowed steps
  pub handed : AreHanded steps
  pub leads : s ≡ table_of steps
