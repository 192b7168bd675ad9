-- From the contracts of a merge's parts to what the merge did.
use Rattle.std.proofs.Common.{◌≡◌, ℕ, ◌%◌, ◌^◌, ◌<◌, ◌⊎◌, List, [], length, subst}
use Rattle.std.specs.Prelude.{Option, IfSome, Result, IsErrOf}
use Rattle.atomic_table.specs.Seated.{TableId}
use Rattle.bit_wait.specs.declared.wait_calls.BitEnd.{BitEnd}
use Rattle.edge_io.specs.{declared.sink.SinkFault.SinkFault, Faults.HasRisen}
use Rattle.edge_io.specs.Folders.{Files, HasBytes, HoldsNothing}
use Rattle.edge_io.specs.declared.sink.SinkFault.TheVariants as sink
use Rattle.wait_rule.specs.{Known.Known, TallyLaws.tally_in}
use Rattle.copy_plan.specs.{declared.TheConstants.COUNTED_PAGE, declared.plan.Planned.Planned}
use Rattle.copy_plan.specs.{declared.stop.ReaderEnd.ReaderEnd, declared.stop.Stop.Stop}
use Rattle.copy_plan.specs.{declared.stop.WorkerEnd.WorkerEnd, Stops.IfFinished}
use Rattle.copy_plan.specs.declared.stop.Stop.TheVariants as stop
use Rattle.copy_ends.specs.Did.{ReaderDid}
use Rattle.copy_ends.proofs.Rows.{gave_all}
use Rattle.flow_merge.specs.Merged.{Drawn, SinkFilled, HoldsMerged, IsMergeStop, Merged, MergesAll, NoneHurt, ends_of}
use Rattle.waitq_copy.specs.Copying.{IsFileStored}
use Rattle.waitq_merge.specs.Merging.{MergeThrough}

-- a reader that finished read as many bytes as its source had
size_of : (p : ℕ) (old new : Known) (d : Drawn) (targets : List ℕ) (plan : List Planned) (ended : ReaderEnd)
    → ReaderDid p old new d.left_old d.left_new d.faults_old d.faults_new targets plan ended
    → ended.stop ≡ stop.Finished → IfSome d.left_old (λ bytes. ended.read ≡ length bytes)
size_of p old new d targets plan ended did e =
    let w = did.worked in
    gave_all (λ (xs : List ℕ). ended.read ≡ length xs) d.left_old d.left_new w.given w.left
    (subst (λ (s : Stop). IfFinished s (IfSome d.left_new (λ bytes. bytes ≡ []))) e w.whole) w.read

module _ (domain : TableId) (task : Known) (files_old files_new : Option Files)
    (reads_old reads_new writes_old writes_new : ℕ) (first second dst : List ℕ) (one two : Drawn)
    (into : SinkFilled) (left right : ReaderEnd) (merger writer : WorkerEnd) (how : Stop) (moved : ℕ)
    (stored : Result (Unit {0}) SinkFault) (total : Result ℕ BitEnd) where
  pub merged_through : HasBytes files_old first one.left_old → HasBytes files_old second two.left_old
      → HoldsNothing files_old into.held_old
      → (one.faults_old ≡ 0) × ((two.faults_old ≡ 0) × (into.faults_old ≡ 0))
      → Merged domain task one two into (ends_of left right merger writer) how total → HoldsMerged one two into
      → (how ≡ stop.Finished → MergesAll one two into (ends_of left right merger writer) moved)
      → moved ≡ tally_in COUNTED_PAGE task.view % 2 ^ 64 → IsMergeStop how
      → NoneHurt (ends_of left right merger writer) → IsFileStored stored files_old files_new dst into.held_new
      → ((0 < one.faults_new) ⊎ (0 < two.faults_new) → HasRisen reads_old reads_new)
      → (0 < into.faults_new → HasRisen writes_old writes_new)
      → (IsErrOf stored sink.Failed → HasRisen writes_old writes_new)
      → MergeThrough domain task files_old files_new reads_old reads_new writes_old writes_new first second dst left
      right how moved stored
  merged_through found_first found_second empty fresh merged front whole tally stops unhurt stores reads writes
      refused = record {
        one = one;
        two = two;
        into = into;
        merger = merger;
        writer = writer;
        total = total;
        found_first = found_first;
        found_second = found_second;
        empty = empty;
        fresh = fresh;
        merged = merged;
        front = front;
        whole = whole;
        size_first = λ e. size_of _ _ _ one _ _ left merged.did.left (whole e).all.left;
        size_second = λ e. size_of _ _ _ two _ _ right merged.did.right (whole e).all.right;
        tally = tally;
        stops = stops;
        unhurt = unhurt;
        stores = stores;
        reads = reads;
        writes = writes;
        refused = refused;
      }

-- over what was so before the sources were opened and the sink was made
module _ (domain : TableId) (task : Known) (files_new : Option Files) (reads_new writes_new : ℕ)
    (first second dst : List ℕ) (left right : ReaderEnd) (how : Stop) (moved : ℕ)
    (stored : Result (Unit {0}) SinkFault) where
  pub from_begun : (files_old files_mid : Option Files) (reads_old reads_mid writes_old writes_mid : ℕ)
      → files_mid ≡ files_old → reads_mid ≡ reads_old → writes_mid ≡ writes_old
      → MergeThrough domain task files_mid files_new reads_mid reads_new writes_mid writes_new first second dst left
      right how moved stored
      → MergeThrough domain task files_old files_new reads_old reads_new writes_old writes_new first second dst left
      right how moved stored
  from_begun fo fm ro rm wo wm e f h t =
      subst (λ (x : Option Files). MergeThrough domain task x files_new ro reads_new wo writes_new first second dst left
      right how moved stored) e
      (subst (λ (x : ℕ). MergeThrough domain task fm files_new x reads_new wo writes_new first second dst left right how
      moved stored) f
      (subst (λ (x : ℕ). MergeThrough domain task fm files_new rm reads_new x writes_new first second dst left right how
      moved stored) h t))
