-- The first load of a wait.
use Rattle.std.proofs.Common.{refl, subst, sym}
use Rattle.std.specs.Prelude.{ℕ, ◌≡◌}
use Rattle.wait_model.specs.declared.steps.Step.TheVariants as step
use Rattle.wait_rule.specs.declared.journal.Item.TheVariants as item
use Rattle.wait_rule.specs.{Known.Known, Says.added, Stays.Carries, Stays.unchanged}
use Rattle.wait_class.specs.declared.stages.Doing.TheVariants as doing
use Rattle.wait_class.specs.{declared.stages.Run.Run, declared.stages.Turn.Turn, Laws.LoadLaw}
use Rattle.wait_class.specs.Tables.{IsAt, Turned}
use Rattle.wait_class.proofs.States.{load_advances}
use Rattle.wait_event.specs.{declared.waits.WaitCall.WaitCall, declared.waits.WaitOutcome.WaitOutcome}
use Rattle.wait_event.specs.declared.waits.WaitStage.{WaitStage}
use Rattle.wait_event.specs.Waits.{wait_doing, wait_loaded_to, wait_table}
use Rattle.wait_event.specs.declared.waits.WaitStage.TheVariants as stage
use Rattle.wait_event.proofs.WaitLaws.{first_law, wait_lawful}

first_only : (s : WaitStage) → wait_doing s ≡ doing.Own → s ≡ stage.First
first_only stage.First here = refl
first_only s here = absurd (cc)

own_law : (r : WaitCall) (s : WaitStage) → wait_doing s ≡ doing.Own → (v : ℕ)
    → LoadLaw wait_table r s v (record r { seen = v }) (wait_loaded_to r s v)
own_law r s here v = subst (λ (q : WaitStage). LoadLaw wait_table r q v (record r { seen = v }) (wait_loaded_to r q v))
    (sym (first_only s here)) (first_law r v)

pub first_advances : (old new : Known) (r : Run WaitCall) (s : WaitStage) → wait_doing s ≡ doing.Own
    → IsAt wait_table old r s → (v : ℕ) → new ≡ added old (item.Made (step.Load r.of.watch v))
    → Carries unchanged old new → (u : Turn WaitStage WaitOutcome) → u ≡ wait_loaded_to r.of s v → (q : WaitCall)
    → q ≡ record r.of { seen = v } → Turned wait_table old new r (record r { of = q }) s u
first_advances old new r s here a v is carries u to q notes = load_advances wait_table wait_lawful old new r s a r.of.watch
    refl v (own_law r.of s here v) is carries u to q notes
