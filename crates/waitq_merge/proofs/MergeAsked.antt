-- What a run says of a merge, where the words ask for one, and of the status of one.
use Rattle.std.proofs.Common.{◌≡◌, ℕ, ◌⊎◌, List, inl, inr, refl, sym, ap, ◌∙◌, subst, true, false}
use Rattle.std.specs.Prelude.{Option, Some, None, Result, Ok, Err}
use Rattle.std.proofs.lemmas.Bool.{false≢true}
use Rattle.atomic_table.specs.Seated.{TableId}
use Rattle.edge_io.specs.Folders.{Files}
use Rattle.wait_rule.specs.Known.{Known}
use Rattle.waitq_alone.specs.{Alone.exit_status, Alone.is_quiet, declared.fault.Fault.Fault}
use Rattle.waitq_alone.specs.Commands.{Request, Replay, Drill, Copy, Merge, may_end_with, takes_files}
use Rattle.waitq_alone.specs.declared.fault.Fault.TheVariants as fault
use Rattle.waitq_copy.specs.Copying.{HasFile, IsMakeFault, IsOpenFault, IsStartFault, Outside, fault_after}
use Rattle.waitq_copy.proofs.Answered.{killed_how}
use Rattle.waitq_copy.proofs.Asked.{IsCopyFault, after, concluded, silent}
use Rattle.waitq_alone.proofs.Refusals.{IsRefusal}
use Rattle.waitq_merge.specs.{Merging.MergeLeft, MergeRun.IfMerge}
use Rattle.waitq_merge.proofs.MergeAnswers.{not_killed}

pub no_merge : (o : Option Request) (P : List ℕ → List ℕ → List ℕ → Type 0) → takes_files o ≡ false → IfMerge o P
no_merge (Some (Copy src dst plan)) P e = tt
no_merge (Some (Merge first second dst)) P e = absurd (false≢true (sym e))
no_merge (Some Replay) P e = tt
no_merge (Some (Drill seed count)) P e = tt
no_merge None P e = tt

-- the faults that a merge may answer: those of a copy, but for a kill
abbrev IsMergeFault : Fault → Type 0
IsMergeFault fault.Killed = ⊥
IsMergeFault why = IsCopyFault why

of_copy : (why : Fault) → IsCopyFault why → (why ≡ fault.Killed → ⊥) → IsMergeFault why
of_copy fault.Killed h never = never refl
of_copy why h never = h

fits : (first second dst : List ℕ) (answer : Result (Unit {0}) Fault)
    → ((why : Fault) → answer ≡ Err why → IsMergeFault why)
    → may_end_with (Some (Merge first second dst)) (exit_status answer) ≡ true
fits first second dst (Ok x) h = refl
fits first second dst (Err fault.Usage) h = absurd (h fault.Usage refl)
fits first second dst (Err (fault.Script line why)) h = absurd (h (fault.Script line why) refl)
fits first second dst (Err fault.Read) h = refl
fits first second dst (Err (fault.NoFile name)) h = refl
fits first second dst (Err fault.Write) h = refl
fits first second dst (Err fault.Killed) h = absurd (h fault.Killed refl)
fits first second dst (Err fault.Memory) h = refl
fits first second dst (Err fault.Long) h = refl
fits first second dst (Err (fault.Worn place)) h = refl

opens : (files : Option Files) (reads_old reads_new : ℕ) (name : List ℕ) (why : Fault)
    → IsOpenFault files reads_old reads_new name why → IsMergeFault why
opens files ro rn name fault.Usage h = h
opens files ro rn name (fault.Script line reason) h = h
opens files ro rn name fault.Killed h = h
opens files ro rn name why h = tt

makes : (writes_old writes_new : ℕ) (why : Fault) → IsMakeFault writes_old writes_new why → IsMergeFault why
makes wo wn fault.Usage h = h
makes wo wn (fault.Script line reason) h = h
makes wo wn fault.Killed h = h
makes wo wn why h = tt

module _ (files : Option Files) (reads_old reads_new writes_old writes_new : ℕ) (first second : List ℕ)
    (why : Fault) where
  second_starts : IsOpenFault files reads_old reads_new second why
      ⊎ (HasFile files second × (reads_new ≡ reads_old) × IsMakeFault writes_old writes_new why) → IsMergeFault why
  second_starts (inl h) = opens files reads_old reads_new second why h
  second_starts (inr h) = makes writes_old writes_new why h.2

  starts : IsOpenFault files reads_old reads_new first why
      ⊎ (HasFile files first × IsStartFault files reads_old reads_new writes_old writes_new second why)
      → IsMergeFault why
  starts (inl h) = opens files reads_old reads_new first why h
  starts (inr h) = second_starts h.1.cause

module _ (domain : TableId) (task_old task_new : Known) (old new : Outside) (first second dst : List ℕ)
    (answer : Result (Unit {0}) Fault) where
  fault_of : MergeLeft domain task_old task_new old new first second dst answer → (why : Fault)
      → answer ≡ Err why → IsMergeFault why
  fault_of (inl n) why e =
      let same : n.why ≡ why = cc (sym n.answered ∙ e) in
      subst IsMergeFault same (starts _ _ _ _ _ first second n.why n.cause.cause)
  fault_of (inr r) why e =
      of_copy why (concluded (fault_after r.how r.stored) _ _ _ _ _ answer why (after r.how r.stored) r.told e)
      (λ k. not_killed _ _ _ _ _ _ _ _ _ _ _ _ _ _ _ _ r.through
      (killed_how r.how r.stored _ _ _ _ _ answer r.told (e ∙ ap Err k)))

  pub status_fits : MergeLeft domain task_old task_new old new first second dst answer
      → may_end_with (Some (Merge first second dst)) (exit_status answer) ≡ true
  status_fits left = fits first second dst answer (fault_of left)

  pub left_silent : MergeLeft domain task_old task_new old new first second dst answer
      → is_quiet (exit_status answer) ≡ true → new.held ≡ old.held
  left_silent (inl n) q = n.held
  left_silent (inr r) q = silent (fault_after r.how r.stored) _ old.held new.held _ _ answer r.told q

-- where words ask for a merge, they were refused for want of memory alone
pub of_merges : (o : Option Request) (f : Fault) (p : List ℕ → List ℕ → List ℕ → Type 0) → IsRefusal o f
    → (f ≡ fault.Memory → (first second dst : List ℕ) → p first second dst) → IfMerge o p
of_merges None f p r h = tt
of_merges (Some Replay) f p r h = tt
of_merges (Some (Drill seed count)) f p r h = tt
of_merges (Some (Copy src dst plan)) f p r h = tt
of_merges (Some (Merge first second dst)) f p (inl m) h = h m first second dst
of_merges (Some (Merge first second dst)) f p (inr u) h = absurd (cc u.1)

pub left_by_want : (domain : TableId) (task : Known) (o : Outside) (first second dst : List ℕ) (f : Fault)
    → f ≡ fault.Memory → MergeLeft domain task task o o first second dst (Err f)
left_by_want domain task o first second dst f m = inl (record {
  why = fault.Memory;
  answered = ap Err m;
  task = λ number. refl;
  files = refl;
  held = refl;
  faults = refl;
  cause = record { cause = inl tt };
})
