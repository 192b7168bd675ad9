-- From the contracts of a copy's parts to what the copy did.
use Rattle.std.proofs.Common.{◌≡◌, ℕ, ◌%◌, ◌^◌, ◌<◌, List, ◌∙◌, subst}
use Rattle.std.specs.Prelude.{Option, Result, Ok, Err, IfOk, OnErr, IsErrOf}
use Rattle.atomic_table.specs.Seated.{TableId}
use Rattle.edge_io.specs.{declared.sink.SinkFault.SinkFault, Faults.HasRisen}
use Rattle.edge_io.specs.Folders.{Files, HasBytes, HoldsNothing, Stores}
use Rattle.edge_io.specs.declared.sink.SinkFault.TheVariants as sink
use Rattle.bit_wait.specs.declared.wait_calls.BitEnd.{BitEnd}
use Rattle.wait_rule.specs.{Known.Known, TallyLaws.tally_in}
use Rattle.func_head.specs.Walks.{EntryState}
use Rattle.copy_plan.specs.{declared.TheConstants.COUNTED_PAGE, declared.plan.Planned.Planned}
use Rattle.copy_plan.specs.{declared.stop.ReaderEnd.ReaderEnd, declared.stop.Stop.Stop}
use Rattle.copy_plan.specs.declared.stop.WorkerEnd.{WorkerEnd}
use Rattle.copy_plan.specs.declared.stop.Stop.TheVariants as stop
use Rattle.copy_ends.specs.Copied.{Copied, HoldsAll, HoldsGiven, NoneTaken, Watched}
use Rattle.waitq_copy.specs.Copying.{IsFileStored, Through}
use Rattle.waitq_copy.proofs.Sent.{kills_are, sent_of, size_of}

pub is_stored : (r : Result (Unit {0}) SinkFault) (old mid new : Option Files) (dst : List ℕ)
    (held : Option (List ℕ)) → mid ≡ old → IfOk r (λ _. Stores mid new dst held) → OnErr r (new ≡ mid)
    → IsFileStored r old new dst held
is_stored (Ok x) old mid new dst held e s n = subst (λ (o : Option Files). Stores o new dst held) e s
is_stored (Err y) old mid new dst held e s n = n ∙ e

module _ (domain : TableId) (task : Known) (files_old files_new : Option Files)
    (reads_old reads_new writes_old writes_new : ℕ) (src dst : List ℕ) (plan : List Planned)
    (left_old left_new held_old held_new : Option (List ℕ)) (opened read_faults made write_faults : ℕ)
    (wants_old wants_new : ℕ) (seen_old seen_new : List EntryState) (reader : ReaderEnd) (relay writer : WorkerEnd)
    (how : Stop) (moved : ℕ) (stored : Result (Unit {0}) SinkFault) (total : Result ℕ BitEnd) where
  pub passed : HasBytes files_old src left_old → opened ≡ 0 → HoldsNothing files_old held_old → made ≡ 0
      → Copied domain task left_old left_new opened read_faults held_old held_new made write_faults wants_old wants_new
      seen_old seen_new plan reader relay writer how total
      → HoldsGiven left_old left_new held_old held_new
      → Watched left_old left_new held_old held_new seen_old seen_new writer.stop
      → (how ≡ stop.Finished → HoldsAll left_old held_old held_new seen_old seen_new reader relay writer moved)
      → moved ≡ tally_in COUNTED_PAGE task.view % 2 ^ 64 → NoneTaken reader relay writer
      → IsFileStored stored files_old files_new dst held_new → (0 < read_faults → HasRisen reads_old reads_new)
      → (0 < write_faults → HasRisen writes_old writes_new)
      → (IsErrOf stored sink.Failed → HasRisen writes_old writes_new)
      → Through domain task files_old files_new reads_old reads_new writes_old writes_new src dst plan seen_old
      seen_new reader how moved stored
  passed found at_first empty at_once copied front watched whole tally none_taken stores reads writes refused =
      record {
        left_old = left_old;
        left_new = left_new;
        held_old = held_old;
        held_new = held_new;
        read_faults = read_faults;
        write_faults = write_faults;
        wants_old = wants_old;
        wants_new = wants_new;
        relay = relay;
        writer = writer;
        found = found;
        empty = empty;
        total = total;
        copied = subst (λ (n : ℕ). Copied domain task left_old left_new 0 read_faults held_old held_new n write_faults
            wants_old wants_new seen_old seen_new plan reader relay writer how total) at_once
            (subst (λ (n : ℕ). Copied domain task left_old left_new n read_faults held_old held_new made write_faults
            wants_old wants_new seen_old seen_new plan reader relay writer how total) at_first copied);
        front = front;
        watched = watched;
        whole = whole;
        size = λ e. size_of _ _ _ _ _ _ _ _ _ _ _ _ _ _ _ _ _ _ _ _ copied (whole e).all.reads;
        sent = sent_of _ _ _ _ _ _ _ _ _ _ _ _ _ _ _ _ _ _ _ _ copied none_taken;
        kills = kills_are _ _ _ _ _ _ _ _ _ _ _ _ _ _ _ _ _ _ _ _ copied none_taken;
        tally = tally;
        none_taken = none_taken;
        stores = stores;
        reads = reads;
        writes = writes;
        refused = refused;
      }

-- over what was so before the source was opened and the sink was made
module _ (domain : TableId) (task : Known) (files_new : Option Files) (reads_new writes_new : ℕ) (src dst : List ℕ)
    (plan : List Planned) (seen_old seen_new : List EntryState) (reader : ReaderEnd) (how : Stop) (moved : ℕ)
    (stored : Result (Unit {0}) SinkFault) where
  pub from_begun : (files_old files_mid : Option Files) (reads_old reads_mid writes_old writes_mid : ℕ)
      → files_mid ≡ files_old → reads_mid ≡ reads_old → writes_mid ≡ writes_old
      → Through domain task files_mid files_new reads_mid reads_new writes_mid writes_new src dst plan seen_old seen_new
      reader how moved stored
      → Through domain task files_old files_new reads_old reads_new writes_old writes_new src dst plan seen_old seen_new
      reader how moved stored
  from_begun fo fm ro rm wo wm e f h t =
      subst (λ (x : Option Files). Through domain task x files_new ro reads_new wo writes_new src dst plan seen_old
      seen_new reader how moved stored) e
      (subst (λ (x : ℕ). Through domain task fm files_new x reads_new wo writes_new src dst plan seen_old seen_new
      reader how moved stored) f
      (subst (λ (x : ℕ). Through domain task fm files_new rm reads_new x writes_new src dst plan seen_old seen_new
      reader how moved stored) h t))
