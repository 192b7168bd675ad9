-- To be believed.
-- The done counts that a call has loaded.
use Rattle.std.specs.Prelude.{◌≤◌, List, [], ◌∷◌}
use Rattle.wait_model.specs.declared.layout.TheConstants.{ALL_DONE}
use Rattle.wait_model.specs.declared.steps.Step.TheVariants as step
use Rattle.wait_rule.specs.Transitions.{StepOrLook, Transition, by_step}

-- A done count has 32 bits, and so has each that a load has found. Calls on completions load nothing else.
abbrev pub InRange : StepOrLook → Type 0
InRange (by_step (step.Load c count)) = count ≤ ALL_DONE
InRange _ = Unit {0}

abbrev pub AreInRange : List Transition → Type 0
AreInRange [] = Unit {0}
AreInRange (t ∷ ts) = InRange t.did × AreInRange ts
