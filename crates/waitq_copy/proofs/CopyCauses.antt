-- The causes of a copy's answers.
use Rattle.std.proofs.Common.{◌≡◌, ℕ, ◌*◌, ◌%◌, ◌^◌, ◌≤◌, List, ◌∙◌, subst, arith}
use Rattle.std.specs.Prelude.{Some, Result}
use Rattle.std.proofs.Math.Nat.{mod-eq_of_lt}
use Rattle.atomic_table.specs.Seated.{TableId}
use Rattle.edge_io.specs.declared.sink.SinkFault.{SinkFault}
use Rattle.wait_rule.specs.Known.{Known}
use Rattle.func_head.specs.Walks.{EntryState}
use Rattle.copy_plan.specs.{declared.TheConstants.LONGEST, declared.plan.Planned.Planned}
use Rattle.copy_plan.specs.{declared.stop.ReaderEnd.ReaderEnd, declared.stop.Stop.Stop}
use Rattle.copy_plan.specs.declared.stop.Stop.TheVariants as stop
use Rattle.copy_turns.specs.Turns.{IsTooLong}
use Rattle.waitq_copy.specs.Copying.{Causes, Concludes, Outside, Through, fault_after}
use Rattle.waitq_alone.specs.declared.fault.Fault.{Fault}
use Rattle.waitq_copy.proofs.Answered.{killed_how, long_how, run_causes}
use Rattle.waitq_copy.proofs.StopCauses.{finished_of, killed_of, long_of, not_broken, not_taken, read_fault_of, worn_of}
use Rattle.waitq_copy.proofs.StopCauses.{write_fault_of}

pub short_of : (s : Stop) (n : ℕ) → s ≡ stop.Finished → IsTooLong (Some s) n → n ≤ LONGEST
short_of s n e l = subst (λ (x : Stop). IsTooLong (Some x) n) e l

thrice : (n m : ℕ) → n ≤ LONGEST → m ≡ 3 * n % 2 ^ 64 → m ≡ 3 * n
thrice n m le e = e ∙ mod-eq_of_lt (omega arith)

module _ (domain : TableId) (task : Known) (old new : Outside) (src dst : List ℕ) (plan : List Planned)
    (seen_old seen_new : List EntryState) (reader : ReaderEnd) (how : Stop) (moved : ℕ)
    (stored : Result (Unit {0}) SinkFault) (text : List ℕ)
    (t : Through domain task old.files new.files old.reads new.reads old.writes new.writes src dst plan seen_old
    seen_new reader how moved stored) (answer : Result (Unit {0}) Fault) where
  reads_short : how ≡ stop.Finished → reader.read ≤ LONGEST
  reads_short e = short_of reader.stop reader.read (t.whole e).all.reads t.copied.reads.worked.long

  pub causes : Concludes (fault_after how stored) text old.held new.held old.faults new.faults answer
      → Causes task old new reader how moved answer
  causes c =
      let run = run_causes task old new how stored text answer c
      (λ e. t.reads (read_fault_of _ _ _ _ _ _ _ _ _ _ _ _ _ _ _ _ _ _ t.copied e))
      (λ e. t.writes (write_fault_of _ _ _ _ _ _ _ _ _ _ _ _ _ _ _ _ _ _ t.copied e)) t.refused
      (worn_of _ _ _ _ _ _ _ _ _ _ _ _ _ _ _ _ _ _ t.copied)
      (not_broken _ _ _ _ _ _ _ _ _ _ _ _ _ _ _ _ _ _ t.copied)
      (not_taken _ _ _ _ _ _ _ _ _ _ _ _ _ _ _ _ _ _ t.copied) in
      record {
        run = run;
        long = λ e. long_of _ _ _ _ _ _ _ _ _ _ _ _ _ _ _ _ _ _ t.copied
            (long_how how stored text old.held new.held old.faults new.faults answer c e);
        killed = λ e. killed_of _ _ _ _ _ _ _ _ _ _ _ _ _ _ _ _ _ _ t.copied
            (killed_how how stored text old.held new.held old.faults new.faults answer c e);
        spared = λ e. finished_of _ _ _ _ _ _ _ _ _ _ _ _ _ _ _ _ _ _ t.copied (run.finished e);
        short = λ e. reads_short (run.finished e);
        counted = λ e. thrice reader.read moved (reads_short (run.finished e)) (t.whole (run.finished e)).moved;
      }
