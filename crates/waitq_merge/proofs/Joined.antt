-- What a merge that went well delivers.
use Rattle.std.proofs.Common.{◌≡◌, ℕ, List, true, inl, inr, sym, ap, ◌∙◌, subst}
use Rattle.std.specs.Prelude.{Option, Some, None, Result, Ok, IfSome, is_some}
use Rattle.std.proofs.lemmas.Bool.{false≢true}
use Rattle.std.specs.Io.KnownBytes.{append_known}
use Rattle.atomic_table.specs.Seated.{TableId}
use Rattle.edge_io.specs.declared.sink.SinkFault.{SinkFault}
use Rattle.edge_io.specs.Folders.{Files, HasBytes, HoldsNothing, Stores}
use Rattle.wait_rule.specs.Known.{Known}
use Rattle.flow_merge.specs.Passed.{Piece, merged_bytes, bytes_of}
use Rattle.flow_merge.specs.declared.sides.Side.TheVariants as sides
use Rattle.waitq_alone.specs.declared.fault.Fault.{Fault}
use Rattle.waitq_copy.specs.Copying.{IsFileStored, Outside}
use Rattle.waitq_copy.proofs.{Answered.stored_whole, Fronts.holds}
use Rattle.waitq_merge.specs.{Merging.MergeLeft, MergeRun.DeliversBoth}

-- the bytes of a file that is there and told
told_bytes : (file left : Option (List ℕ)) (bytes : List ℕ) → is_some file ≡ true → left ≡ file
    → IfSome left (λ xs. xs ≡ bytes) → file ≡ Some bytes
told_bytes None left bytes some e h = absurd (false≢true some)
told_bytes (Some xs) left bytes some e h =
    let same : xs ≡ bytes = subst (λ (o : Option (List ℕ)). IfSome o (λ ys. ys ≡ bytes)) e h in
    ap (λ (ys : List ℕ). Some ys) same

join : (files_old files_new : Option Files) (first second dst : List ℕ)
    (left right held_old held_new : Option (List ℕ)) (pieces : List Piece) → HasBytes files_old first left
    → HasBytes files_old second right → HoldsNothing files_old held_old → Stores files_old files_new dst held_new
    → IfSome left (λ bytes. bytes ≡ bytes_of sides.Left pieces)
    → IfSome right (λ bytes. bytes ≡ bytes_of sides.Right pieces)
    → held_new ≡ append_known held_old (merged_bytes pieces) → DeliversBoth first second dst files_old files_new
join None files_new first second dst left right held_old held_new pieces fl fr empty stores l r h = tt
join (Some old) files_new first second dst left right held_old held_new pieces fl fr empty stores l r h = (
  stores.0,
  pieces,
  stores.1,
  told_bytes (old first) left (bytes_of sides.Left pieces) fl.0 fl.1 l,
  told_bytes (old second) right (bytes_of sides.Right pieces) fr.0 fr.1 r,
  subst (λ (o : Option (List ℕ)). IfSome o (λ xs. stores.0 dst ≡ Some xs))
      (holds held_old held_new (merged_bytes pieces) empty h) stores.2.bytes,
)

pub joined : (domain : TableId) (task_old task_new : Known) (old new : Outside) (first second dst : List ℕ)
    (answer : Result (Unit {0}) Fault) → MergeLeft domain task_old task_new old new first second dst answer
    → answer ≡ Ok tt → DeliversBoth first second dst old.files new.files
joined domain task_old task_new old new first second dst answer (inl n) e = absurd (cc (sym n.answered ∙ e))
joined domain task_old task_new old new first second dst answer (inr r) e =
    let t = r.through in
    let all = t.whole (r.causes.run.finished e) in
    join old.files new.files first second dst t.one.left_old t.two.left_old t.into.held_old t.into.held_new all.pieces
    t.found_first t.found_second t.empty
    (subst (λ (s : Result (Unit {0}) SinkFault). IsFileStored s old.files new.files dst t.into.held_new)
    (stored_whole r.how r.stored _ _ _ _ _ answer r.told e) t.stores) all.left all.right all.held
