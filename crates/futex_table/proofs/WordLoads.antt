-- The load of the word in a hold.
use Rattle.std.proofs.Common.{refl, subst, sym}
use Rattle.std.specs.Prelude.{ℕ, ◌≡◌}
use Rattle.wait_model.specs.declared.steps.Step.TheVariants as step
use Rattle.wait_model.specs.declared.watches.Watch.{Watch}
use Rattle.wait_rule.specs.declared.journal.Item.TheVariants as item
use Rattle.wait_rule.specs.{Known.Known, Says.added, Stays.Carries, Stays.unchanged}
use Rattle.wait_class.specs.declared.stages.Doing.TheVariants as doing
use Rattle.wait_class.specs.{declared.stages.Run.Run, declared.stages.Turn.Turn, Laws.LoadLaw}
use Rattle.wait_class.specs.Tables.{IsAt, Turned, stage_watch}
use Rattle.wait_class.proofs.States.{load_advances}
use Rattle.futex_table.specs.{declared.waits.FutexOutcome.FutexOutcome, declared.waits.FutexStage.FutexStage}
use Rattle.futex_table.specs.declared.waits.FutexWait.{FutexWait}
use Rattle.futex_table.specs.FutexTables.{futex_doing, futex_loaded, futex_table}
use Rattle.futex_table.specs.declared.waits.FutexStage.TheVariants as stage
use Rattle.futex_table.proofs.FutexLaws.{futex_lawful, load_law}

load_only : (s : FutexStage) → futex_doing s ≡ doing.Own → s ≡ stage.Load
load_only stage.Load here = refl
load_only s here = absurd (cc)

own_law : (r : FutexWait) (s : FutexStage) → futex_doing s ≡ doing.Own → (v : ℕ)
    → LoadLaw futex_table r s v (record r { seen = v }) (futex_loaded r s v)
own_law r s here v =
    subst (λ (q : FutexStage). LoadLaw futex_table r q v (record r { seen = v }) (futex_loaded r q v))
    (sym (load_only s here)) (load_law r v)

pub word_advances : (old new : Known) (r : Run FutexWait) (s : FutexStage) → futex_doing s ≡ doing.Own
    → IsAt futex_table old r s → (w : Watch) → w ≡ stage_watch futex_table r.of s → (v : ℕ)
    → new ≡ added old (item.Made (step.Load w v)) → Carries unchanged old new → (u : Turn FutexStage FutexOutcome)
    → u ≡ futex_loaded r.of s v → (q : FutexWait) → q ≡ record r.of { seen = v }
    → Turned futex_table old new r (record r { of = q }) s u
word_advances old new r s here a w same v is carries u to q notes = load_advances futex_table futex_lawful old new r s a
    w same v (own_law r.of s here v) is carries u to q notes
