-- The causes of a merge's answers.
use Rattle.std.proofs.Common.{◌≡◌, ℕ, ◌+◌, ◌*◌, ◌%◌, ◌^◌, ◌<◌, ◌≤◌, ◌⊎◌, List, inl, inr, ◌∙◌, subst, arith}
use Rattle.std.specs.Prelude.{None, Option, Result}
use Rattle.std.proofs.Math.Nat.{mod-eq_of_lt}
use Rattle.atomic_table.specs.Seated.{TableId}
use Rattle.edge_io.specs.{declared.sink.SinkFault.SinkFault, Faults.HasRisen, Folders.Files}
use Rattle.wait_rule.specs.Known.{Known}
use Rattle.copy_plan.specs.{declared.TheConstants.LONGEST, declared.stop.ReaderEnd.ReaderEnd, declared.stop.Stop.Stop}
use Rattle.copy_plan.specs.declared.stop.Stop.TheVariants as stop
use Rattle.flow_merge.specs.Merged.{IsMergeStop}
use Rattle.waitq_alone.specs.declared.fault.Fault.{Fault}
use Rattle.waitq_copy.specs.Copying.{Concludes, Outside, fault_after}
use Rattle.waitq_copy.proofs.Answered.{finishes, long_how, run_causes}
use Rattle.waitq_copy.proofs.Stops.{rises}
use Rattle.waitq_merge.specs.Merging.{MergeCauses, MergeThrough}
use Rattle.waitq_merge.proofs.MergeStops.{left_short, long_of, right_short, unread, unwritten, worn_of}

-- a count that was 0 and has risen
risen : (old new : ℕ) → old ≡ 0 → HasRisen old new → 0 < new
risen old new e r = rises new (subst (λ (n : ℕ). HasRisen n new) e r)

thrice : (a b n : ℕ) → a ≤ LONGEST → b ≤ LONGEST → n ≡ 3 * (a + b) % 2 ^ 64 → n ≡ 3 * (a + b)
thrice a b n l r e = e ∙ mod-eq_of_lt (omega arith)

module _ (domain : TableId) (task : Known) (files_old files_new : Option Files) (reads_old reads_new writes_old writes_new : ℕ)
    (first second dst : List ℕ) (left right : ReaderEnd) (how : Stop) (moved : ℕ)
    (stored : Result (Unit {0}) SinkFault)
    (t : MergeThrough domain task files_old files_new reads_old reads_new writes_old writes_new first second dst left
    right how moved stored) where
  not_broken : how ≡ stop.Broken → ⊥
  not_broken e = subst (λ (s : Stop). IsMergeStop s) e t.stops

  not_taken : how ≡ stop.Taken → ⊥
  not_taken e = subst (λ (s : Stop). IsMergeStop s) e t.stops

  pub not_killed : how ≡ stop.Killed → ⊥
  not_killed e = subst (λ (s : Stop). IsMergeStop s) e t.stops

  shorts : how ≡ stop.Finished → (left.read ≤ LONGEST) × (right.read ≤ LONGEST)
  shorts e = (
    left_short domain task t.one t.two t.into _ how t.total t.merged (t.whole e).all.left,
    right_short domain task t.one t.two t.into _ how t.total t.merged (t.whole e).all.right,
  )

  -- so the sum of both can be written where there is no fault
  pub short_sum : fault_after how stored ≡ None → left.read + right.read < 2 ^ 64
  short_sum none =
      let s = shorts (finishes how stored not_broken not_taken none) in omega (arith, s.0, s.1)

  rose : HasRisen t.one.faults_old t.one.faults_new ⊎ HasRisen t.two.faults_old t.two.faults_new
      → HasRisen reads_old reads_new
  rose (inl r) = t.reads (inl (risen t.one.faults_old t.one.faults_new t.fresh.0 r))
  rose (inr r) = t.reads (inr (risen t.two.faults_old t.two.faults_new t.fresh.1.0 r))

  pub read_rises : how ≡ stop.ReadFault → HasRisen reads_old reads_new
  read_rises e = rose (unread domain task t.one t.two t.into _ how t.total t.merged e)

  pub write_rises : how ≡ stop.WriteFault → HasRisen writes_old writes_new
  write_rises e = t.writes (risen t.into.faults_old t.into.faults_new t.fresh.1.1
      (unwritten domain task t.one t.two t.into _ how t.total t.merged e))

pub causes : (domain : TableId) (task : Known) (old new : Outside) (first second dst : List ℕ)
    (left right : ReaderEnd) (how : Stop) (moved : ℕ) (stored : Result (Unit {0}) SinkFault) (text : List ℕ)
    → MergeThrough domain task old.files new.files old.reads new.reads old.writes new.writes first second dst left right
    how moved stored
    → (answer : Result (Unit {0}) Fault)
    → Concludes (fault_after how stored) text old.held new.held old.faults new.faults answer
    → MergeCauses task old new left right how moved answer
causes domain task old new first second dst left right how moved stored text t answer c =
    let run = run_causes task old new how stored text answer c (read_rises _ _ _ _ _ _ _ _ _ _ _ _ _ _ _ _ t)
    (write_rises _ _ _ _ _ _ _ _ _ _ _ _ _ _ _ _ t) t.refused
    (worn_of domain task t.one t.two t.into _ how t.total t.merged)
    (not_broken _ _ _ _ _ _ _ _ _ _ _ _ _ _ _ _ t) (not_taken _ _ _ _ _ _ _ _ _ _ _ _ _ _ _ _ t) in
    record {
      run = run;
      long = λ e. long_of domain task t.one t.two t.into _ how t.total t.merged
          (long_how how stored text old.held new.held old.faults new.faults answer c e);
      short = λ e. shorts _ _ _ _ _ _ _ _ _ _ _ _ _ _ _ _ t (run.finished e);
      counted = λ e.
          let s = shorts _ _ _ _ _ _ _ _ _ _ _ _ _ _ _ _ t (run.finished e) in
          thrice left.read right.read moved s.0 s.1 (t.whole (run.finished e)).moved;
    }
