-- What a copy that went well delivers.
use Rattle.std.proofs.Common.{◌≡◌, ℕ, List, [], true, inl, inr, refl, sym, ◌∙◌, subst}
use Rattle.std.specs.Prelude.{Option, Some, None, Result, Ok, IfSome, is_some}
use Rattle.std.proofs.lemmas.Bool.{false≢true}
use Rattle.std.specs.Io.KnownBytes.{append_known}
use Rattle.atomic_table.specs.Seated.{TableId}
use Rattle.edge_io.specs.declared.sink.SinkFault.{SinkFault}
use Rattle.edge_io.specs.Folders.{Files, HasBytes, HoldsNothing, Stores}
use Rattle.wait_rule.specs.Known.{Known}
use Rattle.func_head.specs.Walks.{EntryState}
use Rattle.copy_plan.specs.declared.plan.Planned.{Planned}
use Rattle.waitq_copy.specs.Copying.{CopyLeft, IsFileStored, Outside}
use Rattle.waitq_copy.specs.Run.{DeliversFile}
use Rattle.waitq_alone.specs.declared.fault.Fault.{Fault}
use Rattle.waitq_copy.proofs.{Answered.stored_whole, Fronts.holds}

module _ (old : Files) (files_new : Option Files) (src dst : List ℕ) (held_old held_new : Option (List ℕ)) where
  to : (bytes : List ℕ) → old src ≡ Some bytes → held_new ≡ Some bytes → Stores (Some old) files_new dst held_new
      → DeliversFile src dst (Some old) files_new
  to bytes has held stores = (
    stores.0,
    bytes,
    stores.1,
    has,
    subst (λ (o : Option (List ℕ)). IfSome o (λ xs. stores.0 dst ≡ Some xs)) held stores.2.bytes,
  )

  by : (o : Option (List ℕ)) → old src ≡ o → is_some o ≡ true → held_old ≡ Some []
      → IfSome o (λ bytes. held_new ≡ append_known held_old bytes) → Stores (Some old) files_new dst held_new
      → DeliversFile src dst (Some old) files_new
  by None has some empty all stores = absurd (false≢true some)
  by (Some bytes) has some empty all stores =
      to bytes has (holds held_old held_new bytes empty all) stores

deliver : (files_old files_new : Option Files) (src dst : List ℕ) (left_old held_old held_new : Option (List ℕ))
    → HasBytes files_old src left_old → HoldsNothing files_old held_old → Stores files_old files_new dst held_new
    → IfSome left_old (λ bytes. held_new ≡ append_known held_old bytes) → DeliversFile src dst files_old files_new
deliver None files_new src dst left_old held_old held_new found empty stores all = tt
deliver (Some old) files_new src dst left_old held_old held_new found empty stores all =
    by old files_new src dst held_old held_new (old src) refl found.0 empty
    (subst (λ (o : Option (List ℕ)). IfSome o (λ bytes. held_new ≡ append_known held_old bytes)) found.1 all) stores

pub delivered : (domain : TableId) (task_old task_new : Known) (old new : Outside) (src dst : List ℕ)
    (plan : List Planned) (watchers : List EntryState) (answer : Result (Unit {0}) Fault)
    → CopyLeft domain task_old task_new old new src dst plan watchers answer → answer ≡ Ok tt
    → DeliversFile src dst old.files new.files
delivered domain task_old task_new old new src dst plan watchers answer (inl n) e =
    absurd (cc (sym n.answered ∙ e))
delivered domain task_old task_new old new src dst plan watchers answer (inr r) e =
    let t = r.through in
    let done = r.causes.run.finished e in
    deliver old.files new.files src dst t.left_old t.held_old t.held_new t.found t.empty
    (subst (λ (s : Result (Unit {0}) SinkFault). IsFileStored s old.files new.files dst t.held_new)
    (stored_whole r.how r.stored _ _ _ _ _ answer r.told e) t.stores) (t.whole done).bytes
