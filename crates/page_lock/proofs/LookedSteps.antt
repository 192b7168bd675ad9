-- Whether a task has looked for a signal since it last slept or queued its entry, by its history.
use Rattle.std.proofs.Common.{refl, ◌∙◌, ap}
use Rattle.std.specs.Prelude.{ℕ, ◌≡◌, Bool, true, false, Option, List, [], ◌∷◌, ◌++◌}
use Rattle.wait_model.specs.{declared.calls.Event.Event, declared.points.Given.Given, declared.steps.Step.Step}
use Rattle.wait_model.specs.declared.calls.Event.TheVariants as event
use Rattle.wait_model.specs.declared.steps.Step.TheVariants as step
use Rattle.wait_rule.specs.{declared.journal.Item.Item, Items.steps_of, Known.Known, Says.history_of}
use Rattle.wait_rule.specs.Transitions.{AreLooks, AreScansOf, IsMadeFor, IsStepFor, OnlyLooks, StepOrLook}
use Rattle.wait_rule.specs.Transitions.{after_step_or_look, by_look, by_step}
use Rattle.wait_rule.specs.declared.journal.Item.TheVariants as item
use Rattle.wait_rule.proofs.SaidEvents.Fronts.{looks_history, step_history}
use Rattle.wait_class.specs.Tables.{has_sleep}
use Rattle.wait_event.proofs.LookedSteps.{looks_all}
use Rattle.page_lock.specs.PageEnds.{are_calm}

-- after a step, and after an event
abbrev pub looked_by : Step → Bool → Bool
looked_by (step.Look w) b = true
looked_by (step.Sleep w) b = false
looked_by (step.Queue x e) b = false
looked_by _ b = b

abbrev pub looked_in : Bool → List Step → Bool
looked_in b [] = b
looked_in b (e ∷ es) = looked_in (looked_by e b) es

abbrev pub told_by : Event → Bool → Bool
told_by (event.Look hit) b = true
told_by (event.Sleep x) b = false
told_by (event.Queue h form) b = false
told_by _ b = b

abbrev pub has_looked : Known → Bool
has_looked k = looked_in false (history_of k)

pub looked_append : (b : Bool) (xs ys : List Step) → looked_in b (xs ++ ys) ≡ looked_in (looked_in b xs) ys
looked_append b [] ys = refl
looked_append b (e ∷ xs) ys = looked_append (looked_by e b) xs ys

-- looks leave it
looks_leave : (xs : List Item) → AreLooks xs → (b : Bool) → looked_in b (steps_of xs) ≡ b
looks_leave = looks_all (λ es. (b : Bool) → looked_in b es ≡ b) (λ b. refl) (λ x w es stays. stays)

scans_leave : (h : ℕ) (xs : List Item) → AreScansOf h xs → (b : Bool) → looked_in b (steps_of xs) ≡ b
scans_leave h [] l b = refl
scans_leave h (item.Made (step.Scan g i w) ∷ xs) l b = scans_leave h xs l.1 b
scans_leave h (y ∷ xs) l b = absurd l.0

pub looked_on : (old new : Known) → OnlyLooks old new → has_looked new ≡ has_looked old
looked_on old new l = ap (looked_in false) (looks_history old new l)
    ∙ (looked_append false (history_of old) (steps_of l.items) ∙ looks_leave l.items l.looks (has_looked old))

-- a step does what its event says
step_tells : (k : Known) (own : Option ℕ) (g : Given) (ev : Event) (e : Step) (b : Bool) → IsStepFor k own g ev e
    → looked_by e b ≡ told_by ev b
step_tells k own g (event.State v) (step.State σ) b made = refl
step_tells k own g (event.Sleep x) (step.Sleep w) b made = refl
step_tells k own g (event.Wake i hit) (step.Wake who mask w) b made = refl
step_tells k own g (event.Signal i deadly) (step.Signal who fatal w) b made = refl
step_tells k own g (event.Accept x) (step.Accept w) b made = refl
step_tells k own g (event.Look hit) (step.Look w) b made = refl
step_tells k own g (event.Lock h) (step.Lock i aim w) b made = refl
step_tells k own g (event.Unlock h used) (step.Unlock i spent) b made = refl
step_tells k own g (event.Queue h form) (step.Queue x e) b made = refl
step_tells k own g (event.Unqueue who) (step.Unqueue x) b made = refl
step_tells k own g (event.Queued hit) (step.Peek x w) b made = refl
step_tells k own g (event.Mark h) (step.Mark i q) b made = refl
step_tells k own g (event.Unmark h) step.Unmark b made = refl
step_tells k own g (event.Load c v) (step.Load l r) b made = refl
step_tells k own g (event.Set c v) (step.Publish l n r) b made = refl
step_tells k own g (event.Set c v) (step.Consume l n r) b made = refl
step_tells k own g (event.Take c v) (step.Consume l n r) b made = refl
step_tells k own g (event.Tas i j v) (step.Consume l n r) b made = refl
step_tells k own g (event.Clear i j) (step.Publish l n r) b made = refl
step_tells k own g (event.Woken who) (step.Woken x) b made = refl
step_tells k own g (event.Flag hit) (step.Flag x w) b made = refl
step_tells k own g event.Unflag (step.Unflag x o) b made = refl
step_tells k own g (event.TasFor p who v) (step.TasFor x q r) b made = refl
step_tells k own g (event.Handed who) (step.Handed x) b made = refl
step_tells k own g ev e b made = absurd made

pub looked_after : (k : Known) (own : Option ℕ) (g : Given) (ev : Event) (did : StepOrLook) → IsMadeFor k own g ev did
    → has_looked (after_step_or_look did k) ≡ told_by ev (has_looked k)
looked_after k own g ev (by_step e) made = ap (looked_in false) (step_history (by_step e) k)
    ∙ (looked_append false (history_of k) (e ∷ []) ∙ step_tells k own g ev e (has_looked k) made)
looked_after k own g (event.Active h hit) (by_look xs) made = ap (looked_in false) (step_history (by_look xs) k)
    ∙ (looked_append false (history_of k) (steps_of xs) ∙ scans_leave h xs made.0 (has_looked k))
looked_after k own g ev (by_look xs) made = absurd made

-- one that has neither slept nor queued since has looked
pub looked_still : (es : List Step) → has_sleep es ≡ false → are_calm es ≡ true → looked_in true es ≡ true
looked_still [] awake calm = refl
looked_still (step.Sleep w ∷ es) awake calm = absurd (cc)
looked_still (step.Queue x e ∷ es) awake calm = absurd (cc)
looked_still (step.Consume c n r ∷ es) awake calm = absurd (cc)
looked_still (step.Unflag x o ∷ es) awake calm = absurd (cc)
looked_still (step.Look w ∷ es) awake calm = looked_still es awake calm
looked_still (e ∷ es) awake calm = looked_still es awake calm

pub calm_later : (front : List Step) (e : Step) (later : List Step) → are_calm (front ++ (e ∷ later)) ≡ true
    → are_calm (e ∷ later) ≡ true
calm_later [] e later calm = calm
calm_later (d ∷ front) e later calm = calm_later front e later (calm_tail d (front ++ (e ∷ later)) calm)
  where
    calm_tail : (x : Step) (es : List Step) → are_calm (x ∷ es) ≡ true → are_calm es ≡ true
    calm_tail (step.Queue y n) es c = absurd (cc)
    calm_tail (step.Consume y n r) es c = absurd (cc)
    calm_tail (step.Unflag y o) es c = absurd (cc)
    calm_tail x es c = c
