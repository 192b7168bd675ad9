-- What the stop of a copy tells of its tasks.
use Rattle.std.proofs.Common.{◌≡◌, ℕ, ◌<◌, List, [], ◌∷◌, inl, inr, sym, ◌∙◌, subst}
use Rattle.std.specs.Prelude.{Option, Some, Result}
use Rattle.atomic_table.specs.Seated.{TableId}
use Rattle.edge_io.specs.Faults.{HasRisen}
use Rattle.bit_wait.specs.declared.wait_calls.BitEnd.{BitEnd}
use Rattle.wait_rule.specs.{Known.Known, Says.newcomer}
use Rattle.func_head.specs.Walks.{EntryState}
use Rattle.copy_plan.specs.{declared.plan.Planned.Planned, declared.stop.ReaderEnd.ReaderEnd, declared.stop.Stop.Stop}
use Rattle.copy_plan.specs.{declared.stop.WorkerEnd.WorkerEnd, Stops.IfTaken}
use Rattle.copy_plan.specs.declared.TheConstants.{LONGEST, SINK_PIPE, SOURCE_PIPE}
use Rattle.copy_plan.specs.declared.stop.Stop.TheVariants as stop
use Rattle.copy_ends.specs.Copied.{Copied, control_stop}
use Rattle.copy_turns.specs.Turns.{IsTooLong, IsReaderStop, IsRelayStop, IsWriterStop}
use Rattle.waitq_copy.specs.Copying.{WasTableFull}
use Rattle.waitq_copy.proofs.Stops.{Among, Cause, among_named, cause_of, full_at, full_control, kills_of, never_broken}
use Rattle.waitq_copy.proofs.Stops.{never_taken, no_control, rises, spared_of}

module _ (domain : TableId) (task : Known) (left_old left_new : Option (List ℕ)) (reads_new : ℕ)
    (held_old held_new : Option (List ℕ)) (writes_new wants_old wants_new : ℕ)
    (seen_old seen_new : List EntryState) (plan : List Planned) (reader : ReaderEnd) (relay writer : WorkerEnd)
    (how : Stop) (total : Result ℕ BitEnd)
    (c : Copied domain task left_old left_new 0 reads_new held_old held_new 0 writes_new wants_old wants_new seen_old
    seen_new plan reader relay writer how total) where
  cause : (s : Stop) → how ≡ s → Cause (reader.stop ∷ relay.stop ∷ writer.stop ∷ control_stop total ∷ [])
      reader.kills s
  cause s e = cause_of (reader.stop ∷ relay.stop ∷ writer.stop ∷ control_stop total ∷ []) reader.kills s
      (sym c.stops ∙ e)

  reader_stop : (s : Stop) → reader.stop ≡ s
      → IfTaken s (Unit {0}) (IsReaderStop SOURCE_PIPE (newcomer domain 1 2 0) c.one (HasRisen 0 reads_new) s)
  reader_stop s e = subst (λ (x : Stop). IfTaken x (Unit {0})
      (IsReaderStop SOURCE_PIPE (newcomer domain 1 2 0) c.one (HasRisen 0 reads_new) x)) e c.reads.worked.cause

  relay_stop : (s : Stop) → relay.stop ≡ s → IfTaken s (Unit {0}) (IsRelayStop SOURCE_PIPE SINK_PIPE (newcomer domain 2 3 0) c.two s)
  relay_stop s e = subst (λ (x : Stop). IfTaken x (Unit {0}) (IsRelayStop SOURCE_PIPE SINK_PIPE (newcomer domain 2 3 0) c.two x)) e
      c.relays.worked.cause

  writer_stop : (s : Stop) → writer.stop ≡ s → IfTaken s (Unit {0})
      (IsWriterStop SINK_PIPE (newcomer domain 3 4 0) c.three (HasRisen 0 writes_new) (HasRisen wants_old wants_new) s)
  writer_stop s e = subst (λ (x : Stop). IfTaken x (Unit {0}) (IsWriterStop SINK_PIPE (newcomer domain 3 4 0) c.three
      (HasRisen 0 writes_new) (HasRisen wants_old wants_new) x)) e c.writes.worked.cause

  pub read_fault_of : how ≡ stop.ReadFault → 0 < reads_new
  read_fault_of e = by (among_named _ reader.kills stop.ReadFault (λ f. cc f) (λ f. cc f) (cause stop.ReadFault e))
    where
      by : Among stop.ReadFault (reader.stop ∷ relay.stop ∷ writer.stop ∷ control_stop total ∷ []) → 0 < reads_new
      by (inl f) = rises reads_new (reader_stop stop.ReadFault f)
      by (inr (inl f)) = absurd (relay_stop stop.ReadFault f)
      by (inr (inr (inl f))) = absurd (writer_stop stop.ReadFault f)
      by (inr (inr (inr (inl f)))) = absurd (no_control total stop.ReadFault (λ g. cc g) (λ h p g. cc g) f)
      by (inr (inr (inr (inr f)))) = absurd f

  pub write_fault_of : how ≡ stop.WriteFault → 0 < writes_new
  write_fault_of e = by (among_named _ reader.kills stop.WriteFault (λ f. cc f) (λ f. cc f) (cause stop.WriteFault e))
    where
      by : Among stop.WriteFault (reader.stop ∷ relay.stop ∷ writer.stop ∷ control_stop total ∷ []) → 0 < writes_new
      by (inl f) = absurd (reader_stop stop.WriteFault f)
      by (inr (inl f)) = absurd (relay_stop stop.WriteFault f)
      by (inr (inr (inl f))) = rises writes_new (writer_stop stop.WriteFault f)
      by (inr (inr (inr (inl f)))) = absurd (no_control total stop.WriteFault (λ g. cc g) (λ h p g. cc g) f)
      by (inr (inr (inr (inr f)))) = absurd f

  pub long_of : how ≡ stop.Long → LONGEST < reader.read
  long_of e = by (among_named _ reader.kills stop.Long (λ f. cc f) (λ f. cc f) (cause stop.Long e))
    where
      by : Among stop.Long (reader.stop ∷ relay.stop ∷ writer.stop ∷ control_stop total ∷ []) → LONGEST < reader.read
      by (inl f) = subst (λ (x : Stop). IsTooLong (Some x) reader.read) f c.reads.worked.long
      by (inr (inl f)) = absurd (relay_stop stop.Long f)
      by (inr (inr (inl f))) = absurd (writer_stop stop.Long f)
      by (inr (inr (inr (inl f)))) = absurd (no_control total stop.Long (λ g. cc g) (λ h p g. cc g) f)
      by (inr (inr (inr (inr f)))) = absurd f

  pub worn_of : (h p : ℕ) → how ≡ stop.Worn h p → WasTableFull task p
  worn_of h p e = by (among_named _ reader.kills (stop.Worn h p) (λ f. cc f) (λ f. cc f) (cause (stop.Worn h p) e))
    where
      by : Among (stop.Worn h p) (reader.stop ∷ relay.stop ∷ writer.stop ∷ control_stop total ∷ []) → WasTableFull task p
      by (inl f) = full_at task c.one domain 1 2 h p c.reads.worked.served.grows c.lists.0 c.late.shown c.late.law
          c.late.reader (reader_stop (stop.Worn h p) f)
      by (inr (inl f)) = full_at task c.two domain 2 3 h p c.relays.worked.served.grows c.lists.1 c.late.shown
          c.late.law c.late.relay (relay_stop (stop.Worn h p) f)
      by (inr (inr (inl f))) = full_at task c.three domain 3 4 h p c.writes.worked.served.grows c.lists.2 c.late.shown
          c.late.law c.late.writer (writer_stop (stop.Worn h p) f)
      by (inr (inr (inr (inl f)))) = full_control task c.four domain 4 5 3 h p total c.controls.served.grows c.lists.3
          c.late.shown c.late.law c.late.controller c.ends f
      by (inr (inr (inr (inr f)))) = absurd f

  pub killed_of : how ≡ stop.Killed → 0 < reader.kills
  killed_of e = kills_of _ reader.kills (cause stop.Killed e)

  pub finished_of : how ≡ stop.Finished → reader.kills ≡ 0
  finished_of e = spared_of _ reader.kills (cause stop.Finished e)

  pub not_broken : how ≡ stop.Broken → ⊥
  not_broken e = never_broken _ reader.kills (cause stop.Broken e)

  pub not_taken : how ≡ stop.Taken → ⊥
  not_taken e = never_taken _ reader.kills (cause stop.Taken e)
