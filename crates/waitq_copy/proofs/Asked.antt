-- What a run says of a copy, where the words ask for one, and of the status of one.
use Rattle.std.proofs.Common.{◌≡◌, ℕ, ◌⊎◌, List, [], inl, inr, refl, sym, ◌∙◌, subst, arith, true, false}
use Rattle.std.specs.Prelude.{Option, Some, None, Result, Ok, Err}
use Rattle.std.proofs.lemmas.Bool.{false≢true}
use Rattle.atomic_table.specs.Seated.{TableId}
use Rattle.edge_io.specs.{declared.sink.SinkFault.SinkFault, Folders.Files}
use Rattle.edge_io.specs.declared.sink.SinkFault.TheVariants as sink
use Rattle.wait_rule.specs.Known.{Known}
use Rattle.func_head.specs.Walks.{EntryState}
use Rattle.copy_plan.specs.{declared.plan.Planned.Planned, declared.stop.Stop.Stop, Plans.fatal_of}
use Rattle.copy_plan.specs.declared.stop.Stop.TheVariants as stop
use Rattle.waitq_alone.specs.{Alone.exit_status, Alone.is_quiet, declared.fault.Fault.Fault}
use Rattle.waitq_alone.specs.Commands.{Request, Replay, Drill, Copy, Merge, may_end_with, takes_files}
use Rattle.waitq_copy.specs.Copying.{Concludes, CopyLeft, HasFile, IsMakeFault, IsOpenFault, IsStartFault}
use Rattle.waitq_copy.specs.Copying.{Outside, WritesTold, fault_after}
use Rattle.waitq_copy.specs.Run.{IfCopy}
use Rattle.waitq_alone.specs.declared.fault.Fault.TheVariants as fault
use Rattle.waitq_copy.proofs.Sent.{no_kill}

pub no_copy : (o : Option Request) (P : List ℕ → List ℕ → List Planned → Type 0) → takes_files o ≡ false → IfCopy o P
no_copy (Some (Copy src dst plan)) P e = absurd (false≢true (sym e))
no_copy (Some (Merge a b dst)) P e = tt
no_copy (Some Replay) P e = tt
no_copy (Some (Drill seed count)) P e = tt
no_copy None P e = tt

pub fine_status : (answer : Result (Unit {0}) Fault) → exit_status answer ≡ 0 → answer ≡ Ok tt
fine_status (Ok x) e = refl
fine_status (Err fault.Usage) e = absurd (omega arith)
fine_status answer e = absurd (omega arith)

killed_status : (answer : Result (Unit {0}) Fault) → exit_status answer ≡ 6 → answer ≡ Err fault.Killed
killed_status (Err fault.Killed) e = refl
killed_status answer e = absurd (omega arith)

-- the faults that a copy may answer
abbrev pub IsCopyFault : Fault → Type 0
IsCopyFault fault.Usage = ⊥
IsCopyFault (fault.Script line why) = ⊥
IsCopyFault _ = Unit {0}

abbrev pub IsCopyCause : Option Fault → Type 0
IsCopyCause (Some why) = IsCopyFault why
IsCopyCause None = Unit {0}

pub after : (how : Stop) (stored : Result (Unit {0}) SinkFault) → IsCopyCause (fault_after how stored)
after stop.Memory stored = tt
after how (Ok x) = tt
after how (Err sink.Failed) = tt
after how (Err sink.OutOfMemory) = tt

pub start_fault : (files : Option Files) (reads_old reads_new writes_old writes_new : ℕ) (src : List ℕ) (why : Fault)
    → IsStartFault files reads_old reads_new writes_old writes_new src why → IsCopyFault why
start_fault files ro rn wo wn src why s = by why s.cause
  where
    by : (f : Fault) → IsOpenFault files ro rn src f ⊎ (HasFile files src × (rn ≡ ro) × IsMakeFault wo wn f)
        → IsCopyFault f
    by fault.Usage (inl h) = h
    by fault.Usage (inr h) = h.2
    by (fault.Script line reason) (inl h) = h
    by (fault.Script line reason) (inr h) = h.2
    by f h = tt

told_fault : (text : List ℕ) (old new : Option (List ℕ)) (faults_old faults_new : ℕ) (why : Fault)
    → WritesTold text old new faults_old faults_new (Err why) → IsCopyFault why
told_fault text old new fo fn fault.Usage h = h
told_fault text old new fo fn (fault.Script line reason) h = h
told_fault text old new fo fn why h = tt

pub concluded : (o : Option Fault) (text : List ℕ) (old new : Option (List ℕ)) (faults_old faults_new : ℕ)
    (answer : Result (Unit {0}) Fault) (why : Fault) → IsCopyCause o
    → Concludes o text old new faults_old faults_new answer → answer ≡ Err why → IsCopyFault why
concluded (Some w) text old new fo fn answer why n c e =
    let same : w ≡ why = cc (sym c.0 ∙ e) in
    subst IsCopyFault same n
concluded None text old new fo fn answer why n c e =
    told_fault text old new fo fn why
    (subst (λ (r : Result (Unit {0}) Fault). WritesTold text old new fo fn r) e c)

-- a text that was not written, where the status says so
pub silent : (o : Option Fault) (text : List ℕ) (old new : Option (List ℕ)) (faults_old faults_new : ℕ)
    (answer : Result (Unit {0}) Fault) → Concludes o text old new faults_old faults_new answer
    → is_quiet (exit_status answer) ≡ true → new ≡ old
silent (Some w) text old new fo fn answer c q = c.1
silent None text old new fo fn (Ok x) c q = absurd (false≢true q)
silent None text old new fo fn (Err fault.Write) c q = absurd (false≢true q)
silent None text old new fo fn (Err fault.Memory) c q = absurd (false≢true q)
silent None text old new fo fn (Err f) c q = absurd c

fits : (src dst : List ℕ) (plan : List Planned) (answer : Result (Unit {0}) Fault)
    → ((why : Fault) → answer ≡ Err why → IsCopyFault why)
    → may_end_with (Some (Copy src dst plan)) (exit_status answer) ≡ true
fits src dst plan (Ok x) h = refl
fits src dst plan (Err fault.Usage) h = absurd (h fault.Usage refl)
fits src dst plan (Err (fault.Script line why)) h = absurd (h (fault.Script line why) refl)
fits src dst plan (Err fault.Read) h = refl
fits src dst plan (Err (fault.NoFile name)) h = refl
fits src dst plan (Err fault.Write) h = refl
fits src dst plan (Err fault.Killed) h = refl
fits src dst plan (Err fault.Memory) h = refl
fits src dst plan (Err fault.Long) h = refl
fits src dst plan (Err (fault.Worn place)) h = refl

module _ (domain : TableId) (task_old task_new : Known) (old new : Outside) (src dst : List ℕ) (plan : List Planned)
    (watchers : List EntryState) (answer : Result (Unit {0}) Fault) where
  fault_of : CopyLeft domain task_old task_new old new src dst plan watchers answer → (why : Fault)
      → answer ≡ Err why → IsCopyFault why
  fault_of (inl n) why e =
      let same : n.why ≡ why = cc (sym n.answered ∙ e) in
      subst IsCopyFault same (start_fault _ _ _ _ _ _ n.why n.cause)
  fault_of (inr r) why e = concluded (fault_after r.how r.stored) _ _ _ _ _ answer why (after r.how r.stored) r.told e

  pub status_fits : CopyLeft domain task_old task_new old new src dst plan watchers answer
      → may_end_with (Some (Copy src dst plan)) (exit_status answer) ≡ true
  status_fits left = fits src dst plan answer (fault_of left)

  pub left_silent : CopyLeft domain task_old task_new old new src dst plan watchers answer
      → is_quiet (exit_status answer) ≡ true → new.held ≡ old.held
  left_silent (inl n) q = n.held
  left_silent (inr r) q = silent (fault_after r.how r.stored) _ old.held new.held _ _ answer r.told q

  pub plain : CopyLeft domain task_old task_new old new src dst plan watchers answer → fatal_of plan ≡ []
      → exit_status answer ≡ 6 → ⊥
  plain (inl n) p e =
      let same : n.why ≡ fault.Killed = cc (sym n.answered ∙ killed_status answer e) in
      never (subst (λ (f : Fault). IsStartFault old.files old.reads new.reads old.writes new.writes src f) same
      n.cause).cause
    where
      never : IsOpenFault old.files old.reads new.reads src fault.Killed
          ⊎ (HasFile old.files src × (new.reads ≡ old.reads) × IsMakeFault old.writes new.writes fault.Killed) → ⊥
      never (inl h) = h
      never (inr h) = h.2
  plain (inr r) p e =
      no_kill plan r.reader.read r.reader.kills r.through.kills p (r.causes.killed (killed_status answer e))
