-- Which cause an answer has, of a copy or of a merge that ran.
use Rattle.std.proofs.Common.{◌≡◌, ℕ, ◌⊎◌, List, inl, inr, refl, sym, ap, ◌∙◌, subst}
use Rattle.std.specs.Prelude.{Option, Some, None, Result, Ok, Err}
use Rattle.edge_io.specs.{declared.sink.SinkFault.SinkFault, Faults.HasRisen}
use Rattle.edge_io.specs.declared.sink.SinkFault.TheVariants as sink
use Rattle.wait_rule.specs.Known.{Known}
use Rattle.copy_plan.specs.declared.stop.Stop.{Stop}
use Rattle.copy_plan.specs.declared.stop.Stop.TheVariants as stop
use Rattle.waitq_copy.specs.Copying.{Concludes, Outside, RunCauses, WasTableFull, WritesTold, fault_after}
use Rattle.waitq_alone.specs.declared.fault.Fault.{Fault}
use Rattle.waitq_alone.specs.declared.fault.Fault.TheVariants as fault

-- which stop, and which answer of the sink's storing, a fault comes from
after_read : (how : Stop) (stored : Result (Unit {0}) SinkFault) → fault_after how stored ≡ Some fault.Read
    → how ≡ stop.ReadFault
after_read stop.ReadFault stored e = refl
after_read how (Ok x) e = cc e
after_read how (Err sink.Failed) e = cc e
after_read how (Err sink.OutOfMemory) e = cc e

after_write : (how : Stop) (stored : Result (Unit {0}) SinkFault) → fault_after how stored ≡ Some fault.Write
    → (how ≡ stop.WriteFault) ⊎ (stored ≡ Err sink.Failed)
after_write stop.WriteFault stored e = inl refl
after_write how (Err sink.Failed) e = inr refl
after_write how (Ok x) e = absurd (cc e)
after_write how (Err sink.OutOfMemory) e = absurd (cc e)

after_long : (how : Stop) (stored : Result (Unit {0}) SinkFault) → fault_after how stored ≡ Some fault.Long
    → how ≡ stop.Long
after_long stop.Long stored e = refl
after_long how (Ok x) e = cc e
after_long how (Err sink.Failed) e = cc e
after_long how (Err sink.OutOfMemory) e = cc e

after_killed : (how : Stop) (stored : Result (Unit {0}) SinkFault) → fault_after how stored ≡ Some fault.Killed
    → how ≡ stop.Killed
after_killed stop.Killed stored e = refl
after_killed how (Ok x) e = cc e
after_killed how (Err sink.Failed) e = cc e
after_killed how (Err sink.OutOfMemory) e = cc e

memory_first : (how : Stop) → fault_after how (Err sink.OutOfMemory) ≡ Some fault.Memory
memory_first stop.Memory = refl
memory_first how = refl

worn_place : (h q p : ℕ) → Some (fault.Worn q) ≡ Some (fault.Worn p) → (g : ℕ) × (stop.Worn h q ≡ stop.Worn g p)
worn_place h q p e = (h, cc e)

after_worn : (how : Stop) (stored : Result (Unit {0}) SinkFault) (p : ℕ)
    → fault_after how stored ≡ Some (fault.Worn p) → (h : ℕ) × (how ≡ stop.Worn h p)
after_worn (stop.Worn h q) (Ok x) p e = worn_place h q p e
after_worn (stop.Worn h q) (Err sink.Failed) p e = worn_place h q p e
after_worn how (Ok x) p e = absurd (cc e)
after_worn how (Err sink.Failed) p e = absurd (cc e)
after_worn how (Err sink.OutOfMemory) p e = absurd (cc (sym (memory_first how) ∙ e))

-- no fault at all
data Fine (how : Stop) (stored : Result (Unit {0}) SinkFault) : Type 0 where
  finished : how ≡ stop.Finished → stored ≡ Ok tt → Fine how stored
  broken : how ≡ stop.Broken → Fine how stored
  taken : how ≡ stop.Taken → Fine how stored

after_none : (how : Stop) (stored : Result (Unit {0}) SinkFault) → fault_after how stored ≡ None → Fine how stored
after_none stop.Finished (Ok x) e = finished refl refl
after_none stop.Broken stored e = broken refl
after_none stop.Taken stored e = taken refl
after_none how (Ok x) e = absurd (cc e)
after_none how (Err sink.Failed) e = absurd (cc e)
after_none how (Err sink.OutOfMemory) e = absurd (cc e)

-- So it finished, where it neither broke off nor was taken.
pub finishes : (how : Stop) (stored : Result (Unit {0}) SinkFault) → (how ≡ stop.Broken → ⊥) → (how ≡ stop.Taken → ⊥)
    → fault_after how stored ≡ None → how ≡ stop.Finished
finishes how stored not_broken not_taken none = by (after_none how stored none)
  where
    by : Fine how stored → how ≡ stop.Finished
    by (finished e s) = e
    by (broken e) = absurd (not_broken e)
    by (taken e) = absurd (not_taken e)

-- A sink is stored where there is no fault.
stored_fine : (how : Stop) (stored : Result (Unit {0}) SinkFault) → fault_after how stored ≡ None → stored ≡ Ok tt
stored_fine how (Ok x) e = refl
stored_fine stop.Finished (Err sink.Failed) e = absurd (cc e)
stored_fine how (Err sink.Failed) e = absurd (cc e)
stored_fine how (Err sink.OutOfMemory) e = absurd (cc (sym (memory_first how) ∙ e))

-- from an answer to its fault, or to none
module _ (text : List ℕ) (old new : Option (List ℕ)) (faults_old faults_new : ℕ) (answer : Result (Unit {0}) Fault) where
  told : (why : Fault) → answer ≡ Err why → WritesTold text old new faults_old faults_new answer
      → WritesTold text old new faults_old faults_new (Err why)
  told why e w = subst (λ (r : Result (Unit {0}) Fault). WritesTold text old new faults_old faults_new r) e w

  named : (f : Option Fault) (why : Fault) → Concludes f text old new faults_old faults_new answer → answer ≡ Err why
      → (WritesTold text old new faults_old faults_new (Err why) → ⊥) → f ≡ Some why
  named (Some w) why c e none =
      let same : w ≡ why = cc (sym c.0 ∙ e) in
      ap (λ (x : Fault). Some x) same
  named None why c e none = absurd (none (told why e c))

  fine : (f : Option Fault) → Concludes f text old new faults_old faults_new answer → answer ≡ Ok tt → f ≡ None
  fine (Some w) c e = absurd (cc (sym c.0 ∙ e))
  fine None c e = refl

  unwritten : (f : Option Fault) → Concludes f text old new faults_old faults_new answer → answer ≡ Err fault.Write
      → (f ≡ Some fault.Write) ⊎ HasRisen faults_old faults_new
  unwritten (Some w) c e =
      let same : w ≡ fault.Write = cc (sym c.0 ∙ e) in
      inl (ap (λ (x : Fault). Some x) same)
  unwritten None c e = inr (told fault.Write e c).1

module _ (how : Stop) (stored : Result (Unit {0}) SinkFault) (text : List ℕ) (old new : Option (List ℕ))
    (faults_old faults_new : ℕ) (answer : Result (Unit {0}) Fault)
    (c : Concludes (fault_after how stored) text old new faults_old faults_new answer) where
  pub long_how : answer ≡ Err fault.Long → how ≡ stop.Long
  long_how e = after_long how stored (named text old new faults_old faults_new answer (fault_after how stored)
      fault.Long c e (λ x. x))

  pub killed_how : answer ≡ Err fault.Killed → how ≡ stop.Killed
  killed_how e = after_killed how stored (named text old new faults_old faults_new answer (fault_after how stored)
      fault.Killed c e (λ x. x))

  pub read_how : answer ≡ Err fault.Read → how ≡ stop.ReadFault
  read_how e = after_read how stored (named text old new faults_old faults_new answer (fault_after how stored)
      fault.Read c e (λ x. x))

  pub worn_how : (p : ℕ) → answer ≡ Err (fault.Worn p) → (h : ℕ) × (how ≡ stop.Worn h p)
  worn_how p e = after_worn how stored p (named text old new faults_old faults_new answer (fault_after how stored)
      (fault.Worn p) c e (λ x. x))

  pub write_how : answer ≡ Err fault.Write
      → ((how ≡ stop.WriteFault) ⊎ (stored ≡ Err sink.Failed)) ⊎ HasRisen faults_old faults_new
  write_how e = by (unwritten text old new faults_old faults_new answer (fault_after how stored) c e)
    where
      by : (fault_after how stored ≡ Some fault.Write) ⊎ HasRisen faults_old faults_new
          → ((how ≡ stop.WriteFault) ⊎ (stored ≡ Err sink.Failed)) ⊎ HasRisen faults_old faults_new
      by (inl f) = inl (after_write how stored f)
      by (inr r) = inr r

  pub fine_how : (how ≡ stop.Broken → ⊥) → (how ≡ stop.Taken → ⊥) → answer ≡ Ok tt → how ≡ stop.Finished
  fine_how not_broken not_taken e = finishes how stored not_broken not_taken
      (fine text old new faults_old faults_new answer (fault_after how stored) c e)

  pub stored_whole : answer ≡ Ok tt → stored ≡ Ok tt
  stored_whole e = stored_fine how stored (fine text old new faults_old faults_new answer (fault_after how stored) c e)

-- The causes, by what the stop and the storing tell.
pub run_causes : (task : Known) (old new : Outside) (how : Stop) (stored : Result (Unit {0}) SinkFault)
    (text : List ℕ) (answer : Result (Unit {0}) Fault)
    → Concludes (fault_after how stored) text old.held new.held old.faults new.faults answer
    → (how ≡ stop.ReadFault → HasRisen old.reads new.reads) → (how ≡ stop.WriteFault → HasRisen old.writes new.writes)
    → (stored ≡ Err sink.Failed → HasRisen old.writes new.writes)
    → ((h p : ℕ) → how ≡ stop.Worn h p → WasTableFull task p) → (how ≡ stop.Broken → ⊥) → (how ≡ stop.Taken → ⊥)
    → RunCauses task old new how answer
run_causes task old new how stored text answer c unread unwrote refused worn not_broken not_taken = record {
  read = λ e. unread (read_how how stored text old.held new.held old.faults new.faults answer c e);
  write = λ e. written (write_how how stored text old.held new.held old.faults new.faults answer c e);
  worn = λ p e. full p (worn_how how stored text old.held new.held old.faults new.faults answer c p e);
  finished = λ e. fine_how how stored text old.held new.held old.faults new.faults answer c not_broken not_taken e;
}
  where
    written : ((how ≡ stop.WriteFault) ⊎ (stored ≡ Err sink.Failed)) ⊎ HasRisen old.faults new.faults
        → HasRisen old.writes new.writes ⊎ HasRisen old.faults new.faults
    written (inl (inl e)) = inl (unwrote e)
    written (inl (inr e)) = inl (refused e)
    written (inr r) = inr r

    full : (p : ℕ) → (h : ℕ) × (how ≡ stop.Worn h p) → WasTableFull task p
    full p w = worn w.0 p w.1
