-- What the stop of a merge tells of its tasks.
use Rattle.std.proofs.Common.{◌≡◌, ℕ, ◌<◌, ◌⊎◌, inl, inr, sym, ◌∙◌, subst}
use Rattle.std.specs.Prelude.{Some, Result}
use Rattle.atomic_table.specs.Seated.{TableId}
use Rattle.bit_wait.specs.declared.wait_calls.BitEnd.{BitEnd}
use Rattle.edge_io.specs.Faults.{HasRisen}
use Rattle.wait_rule.specs.{Known.Known, Says.newcomer}
use Rattle.copy_plan.specs.{declared.TheConstants.LONGEST, declared.stop.Stop.Stop, Stops.IfTaken}
use Rattle.copy_plan.specs.declared.stop.Stop.TheVariants as stop
use Rattle.copy_turns.specs.Turns.{IsTooLong, IsReaderStop, IsWriterStop}
use Rattle.flow_merge.specs.declared.TheConstants.{LEFT_PIPE, MERGED_PIPE, RIGHT_PIPE}
use Rattle.flow_merge.specs.Merged.{Drawn, CrewEnds, SinkFilled, Merged, stops_of}
use Rattle.flow_merge.specs.Mergers.{IsMergerStop}
use Rattle.waitq_copy.specs.Copying.{WasTableFull}
use Rattle.waitq_copy.proofs.Stops.{Among, Cause, among_named, cause_of, full_at, full_control, no_control}

module _ (domain : TableId) (task : Known) (one two : Drawn) (into : SinkFilled) (ends : CrewEnds) (how : Stop)
    (total : Result ℕ BitEnd) (m : Merged domain task one two into ends how total) where
  among : (s : Stop) → (s ≡ stop.Finished → ⊥) → (s ≡ stop.Killed → ⊥) → how ≡ s → Among s (stops_of ends total)
  among s nf nk e =
      let cause : Cause (stops_of ends total) 0 s = cause_of (stops_of ends total) 0 s (sym m.stops ∙ e) in
      among_named (stops_of ends total) 0 s nf nk cause

  left_stop : (s : Stop) → ends.left.stop ≡ s → IfTaken s (Unit {0})
      (IsReaderStop LEFT_PIPE (newcomer domain 1 2 0) m.five.left (HasRisen one.faults_old one.faults_new) s)
  left_stop s e = subst (λ (x : Stop). IfTaken x (Unit {0})
      (IsReaderStop LEFT_PIPE (newcomer domain 1 2 0) m.five.left (HasRisen one.faults_old one.faults_new) x)) e
      m.did.left.worked.cause

  right_stop : (s : Stop) → ends.right.stop ≡ s → IfTaken s (Unit {0})
      (IsReaderStop RIGHT_PIPE (newcomer domain 2 3 0) m.five.right (HasRisen two.faults_old two.faults_new) s)
  right_stop s e = subst (λ (x : Stop). IfTaken x (Unit {0})
      (IsReaderStop RIGHT_PIPE (newcomer domain 2 3 0) m.five.right (HasRisen two.faults_old two.faults_new) x)) e
      m.did.right.worked.cause

  merger_stop : (s : Stop) → ends.merger.stop ≡ s
      → IfTaken s (Unit {0}) (IsMergerStop (newcomer domain 3 4 0) m.five.merger s)
  merger_stop s e = subst (λ (x : Stop). IfTaken x (Unit {0})
      (IsMergerStop (newcomer domain 3 4 0) m.five.merger x)) e m.did.merger.worked.cause

  writer_stop : (s : Stop) → ends.writer.stop ≡ s → IfTaken s (Unit {0})
      (IsWriterStop MERGED_PIPE (newcomer domain 4 5 0) m.five.writer (HasRisen into.faults_old into.faults_new)
      (HasRisen into.wants_old into.wants_new) s)
  writer_stop s e = subst (λ (x : Stop). IfTaken x (Unit {0})
      (IsWriterStop MERGED_PIPE (newcomer domain 4 5 0) m.five.writer (HasRisen into.faults_old into.faults_new)
      (HasRisen into.wants_old into.wants_new) x)) e m.did.writer.worked.cause

  pub unread : how ≡ stop.ReadFault → HasRisen one.faults_old one.faults_new ⊎ HasRisen two.faults_old two.faults_new
  unread e = by (among stop.ReadFault (λ f. cc f) (λ f. cc f) e)
    where
      by : Among stop.ReadFault (stops_of ends total)
          → HasRisen one.faults_old one.faults_new ⊎ HasRisen two.faults_old two.faults_new
      by (inl f) = inl (left_stop stop.ReadFault f)
      by (inr (inl f)) = inr (right_stop stop.ReadFault f)
      by (inr (inr (inl f))) = absurd (merger_stop stop.ReadFault f)
      by (inr (inr (inr (inl f)))) = absurd (writer_stop stop.ReadFault f)
      by (inr (inr (inr (inr (inl f))))) = absurd (no_control total stop.ReadFault (λ g. cc g) (λ h p g. cc g) f)
      by (inr (inr (inr (inr (inr f))))) = absurd f

  pub unwritten : how ≡ stop.WriteFault → HasRisen into.faults_old into.faults_new
  unwritten e = by (among stop.WriteFault (λ f. cc f) (λ f. cc f) e)
    where
      by : Among stop.WriteFault (stops_of ends total) → HasRisen into.faults_old into.faults_new
      by (inl f) = absurd (left_stop stop.WriteFault f)
      by (inr (inl f)) = absurd (right_stop stop.WriteFault f)
      by (inr (inr (inl f))) = absurd (merger_stop stop.WriteFault f)
      by (inr (inr (inr (inl f)))) = writer_stop stop.WriteFault f
      by (inr (inr (inr (inr (inl f))))) = absurd (no_control total stop.WriteFault (λ g. cc g) (λ h p g. cc g) f)
      by (inr (inr (inr (inr (inr f))))) = absurd f

  pub long_of : how ≡ stop.Long → (LONGEST < ends.left.read) ⊎ (LONGEST < ends.right.read)
  long_of e = by (among stop.Long (λ f. cc f) (λ f. cc f) e)
    where
      by : Among stop.Long (stops_of ends total) → (LONGEST < ends.left.read) ⊎ (LONGEST < ends.right.read)
      by (inl f) = inl (subst (λ (x : Stop). IsTooLong (Some x) ends.left.read) f m.did.left.worked.long)
      by (inr (inl f)) = inr (subst (λ (x : Stop). IsTooLong (Some x) ends.right.read) f m.did.right.worked.long)
      by (inr (inr (inl f))) = absurd (merger_stop stop.Long f)
      by (inr (inr (inr (inl f)))) = absurd (writer_stop stop.Long f)
      by (inr (inr (inr (inr (inl f))))) = absurd (no_control total stop.Long (λ g. cc g) (λ h p g. cc g) f)
      by (inr (inr (inr (inr (inr f))))) = absurd f

  pub worn_of : (h p : ℕ) → how ≡ stop.Worn h p → WasTableFull task p
  worn_of h p e = by (among (stop.Worn h p) (λ f. cc f) (λ f. cc f) e)
    where
      by : Among (stop.Worn h p) (stops_of ends total) → WasTableFull task p
      by (inl f) = full_at task m.five.left domain 1 2 h p m.did.left.worked.served.grows m.lists.left m.late.shown
          m.late.law m.late.left (left_stop (stop.Worn h p) f)
      by (inr (inl f)) = full_at task m.five.right domain 2 3 h p m.did.right.worked.served.grows m.lists.right
          m.late.shown m.late.law m.late.right (right_stop (stop.Worn h p) f)
      by (inr (inr (inl f))) = full_at task m.five.merger domain 3 4 h p m.did.merger.worked.served.grows
          m.lists.merger m.late.shown m.late.law m.late.merger (merger_stop (stop.Worn h p) f)
      by (inr (inr (inr (inl f)))) = full_at task m.five.writer domain 4 5 h p m.did.writer.worked.served.grows
          m.lists.writer m.late.shown m.late.law m.late.writer (writer_stop (stop.Worn h p) f)
      by (inr (inr (inr (inr (inl f))))) = full_control task m.five.controller domain 5 6 4 h p total
          m.did.controls.served.grows m.lists.controller m.late.shown m.late.law m.late.controller m.did.counts f
      by (inr (inr (inr (inr (inr f))))) = absurd f

  -- a reader that finished read at most what a source may give
  pub left_short : ends.left.stop ≡ stop.Finished → IsTooLong (Some stop.Finished) ends.left.read
  left_short f = subst (λ (x : Stop). IsTooLong (Some x) ends.left.read) f m.did.left.worked.long

  pub right_short : ends.right.stop ≡ stop.Finished → IsTooLong (Some stop.Finished) ends.right.read
  right_short f = subst (λ (x : Stop). IsTooLong (Some x) ends.right.read) f m.did.right.worked.long
