-- To be believed.
-- The flags of entries of kind Woken on a Domain: who waits by one is told of each wake.
use Rattle.std.specs.Prelude.{ℕ, ◌≡◌, Bool, true, false, Some, List, [], ◌∷◌}
use Rattle.wait_model.specs.{declared.steps.Step.Step, Fold.view_of, Laws.NoLostFlag, Tables.Table}
use Rattle.wait_model.specs.declared.layout.TheConstants.{FIRST_PLAIN_HEAD, NORMAL, UNINTERRUPTIBLE}
use Rattle.wait_model.specs.declared.steps.Step.TheVariants as step
use Rattle.wait_model.specs.declared.watches.Mode.TheVariants as mode
use Rattle.wait_model.specs.declared.watches.Watch.TheVariants as watch
use Rattle.wait_rule.specs.{declared.journal.Item.Item, Rule.IsRuled}
use Rattle.wait_rule.specs.Interleavings.{AreAllowed, TaskStep, table_of}

-- A task has queued an entry of kind Woken, and since it did so and cleared the flag it has loaded the entry's watch
-- and the test failed. Where the watch is set and the flag is not, some task owes a wake of the watch, for tasks in
-- whatever state, and has still to set the flag; or, at the head, a wake has used up its count since.
abbrev pub RuleLosesNoFlag : Type 0
RuleLosesNoFlag = (s : Table) (items : ℕ → List Item) → IsRuled s items → NoLostFlag s

abbrev pub StepsLoseNoFlag : Type 0
StepsLoseNoFlag = (xs : List TaskStep) → AreAllowed xs → NoLostFlag (table_of xs)

-- A hold of a walk is past an entry of kind Woken only where it has set its flag, and woken its task after that.
abbrev pub FlagsComeFirst : Type 0
FlagsComeFirst = (s : Table) (items : ℕ → List Item) → IsRuled s items → (a x : ℕ) → (s.view a).hold.rung x ≡ true
    → (s.view a).hold.flagged x ≡ true

-- So it is in small histories: task 0 walks, and calls the entry 2, which is one of task 1. In the right order the hold
-- is past the entry, in the other one it is not, nor after a wake alone.
abbrev pub worked_lock : Step
worked_lock = step.Lock FIRST_PLAIN_HEAD (Some (record { watch = watch.Plain 0; mode = mode.Normal; count = 0 })) 0

abbrev pub is_past : List Step → Bool
is_past es = (view_of (worked_lock ∷ es)).hold.rung 2

pub record WorkedFlags : Type 0 where
  pub flag_first : is_past (step.Woken 2 ∷ step.Wake 1 NORMAL UNINTERRUPTIBLE ∷ []) ≡ true
  pub wake_first : is_past (step.Wake 1 NORMAL UNINTERRUPTIBLE ∷ step.Woken 2 ∷ []) ≡ false
  pub no_flag : is_past (step.Wake 1 NORMAL UNINTERRUPTIBLE ∷ []) ≡ false
