-- To be believed.
-- A variable that is published with a wake.
use Rattle.std.specs.Prelude.{ℕ, ◌≡◌, ◌<◌, Bool, true, false}
use Rattle.wait_model.specs.declared.calls.Answer.TheVariants as answer
use Rattle.wait_model.specs.declared.calls.Call.TheVariants as calls
use Rattle.wait_model.specs.declared.points.Point.TheVariants as at
use Rattle.wait_model.specs.declared.points.Next.TheVariants as next
use Rattle.wait_model.specs.{declared.queues.Walked.Walked, declared.watches.Aim.Aim, Tasks.meets, Watches.head_of}
use Rattle.wait_model.specs.Watches.{mask_of}
use Rattle.wait_model.specs.declared.steps.Step.TheVariants as step
use Rattle.wait_model.specs.declared.watches.Mode.TheVariants as mode
use Rattle.wait_model.specs.declared.watches.Watch.TheVariants as watch
use Rattle.wait_rule.specs.declared.journal.Item.TheVariants as item
use Rattle.wait_rule.specs.{Known.Known, Says.added, Says.told_of, Transitions.call_program}
use Rattle.wq_head.specs.Scanned.{HasScanned, unmade}
use Rattle.wq_head.specs.Walks.{HasEnded, HasWoken, capped}
use Rattle.wait_class.specs.Posts.{Runs}

-- The walk of its wake: for the variable, with NORMAL, and of a count of one, which no entry lowers, since no entry for
-- a variable is exclusive.
abbrev pub aim_of : ℕ → Aim
aim_of v = record { watch = watch.Var v 0; mode = mode.Normal; count = 1 }

-- What follows the look: nothing where it found no member, and the walk of the wake where it found one. So the answer
-- has no hold exactly where the look found none.
abbrev pub EndsLook : Bool → Known → Known → ℕ → Walked → Type 0
EndsLook false looked new v walked = (new ≡ looked) × (walked ≡ unmade)
EndsLook true looked new v walked = HasWoken looked new (aim_of v) walked × HasEnded looked new (aim_of v)
    × (0 < walked.holds)

-- The task stored the value, then looked for members of the variable's head without its lock, and walked only where it
-- found one: it went through the program of the call to this answer. It owes no wake of the variable then, whatever
-- value its waiter has seen.
pub record HasPublished (before new : Known) (v value : ℕ) (walked : Walked) : Type 0 where
  pub stored : Known
  pub found : ℕ
  pub stores : stored ≡ added before (item.Made (step.Publish (watch.Var v 0) value found))
  pub looked : Known
  pub hit : Bool
  pub looks : HasScanned stored looked (head_of (watch.Var v 0)) hit
  pub ends : EndsLook hit looked new v walked
  pub real : Walked
  pub answers : walked ≡ capped real
  pub runs : Runs (call_program before.view.number 0 (calls.SetVar v value)) before new (next.Go at.Publish)
      (next.Ends (answer.Walk real))
  pub over : (old σ : ℕ) → meets (mask_of mode.Normal) σ ≡ true
      → (told_of new).duty.owes (watch.Var v old) σ ≡ false
