-- What the steps of a task on its own flag carry on of it.
use Rattle.std.proofs.Common.{ap, refl}
use Rattle.std.specs.Prelude.{ℕ, ◌≡◌, None}
use Rattle.wait_model.specs.declared.steps.Step.TheVariants as step
use Rattle.wait_rule.specs.declared.journal.Item.TheVariants as item
use Rattle.wait_rule.specs.{Known.Known, Says.added, Says.told_of, Stays.Carries, Stays.unchanged}
use Rattle.wait_rule.proofs.KnownLaws.CarriedTasks.{or_none, step_carried, step_owing}

pub flag_carried : (old new : Known) (i w : ℕ) → new ≡ added old (item.Made (step.Flag i w)) → Carries unchanged old new
flag_carried old new i w is = step_carried (λ σ. σ) old new (step.Flag i w) is (ap (λ (k : Known). k.book.awake) is)
    (ap (λ (k : Known). k.book.state) is) (ap (λ (k : Known). k.book.head) is) refl refl refl refl refl (λ c. refl)
    (step_owing old new (step.Flag i w) is refl refl (λ x. refl) (λ c. refl) (λ c none. none))

pub unflag_carried : (old new : Known) (i : ℕ) → new ≡ added old (item.Made (step.Unflag i None))
    → Carries unchanged old new
unflag_carried old new i is = step_carried (λ σ. σ) old new (step.Unflag i None) is
    (ap (λ (k : Known). k.book.awake) is)
    (ap (λ (k : Known). k.book.state) is) (ap (λ (k : Known). k.book.head) is) refl refl refl refl refl
    (λ c. or_none ((told_of old).bits.keeps c))
    (step_owing old new (step.Unflag i None) is refl refl (λ x. refl) (λ c. or_none ((told_of old).bits.keeps c))
    (λ c none. none))
