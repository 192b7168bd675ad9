-- To be believed.
-- What each worker of a copy did, from its first step to its last, and how it ended.
use Rattle.std.specs.Prelude.{ℕ, ◌≡◌, ◌≢◌, ◌%◌, ◌^◌, ◌≤◌, ◌⊎◌, ◌++◌, true, List, [], length, Option, Some, IfSome}
use Rattle.std.specs.Io.KnownBytes.{append_known, prepend_known}
use Rattle.wait_rule.specs.{Aside.Grows, LeftEntries.LeftOff, Known.Known, Says.IsClean}
use Rattle.wait_rule.specs.Pipes.{moved_bytes, read_end, was_refused, write_end}
use Rattle.wait_rule.specs.PipeSays.{end_at, reading, writing}
use Rattle.completion_cell.specs.Completes.{HasCompleted}
use Rattle.edge_io.specs.Faults.{HasRisen}
use Rattle.func_head.specs.Walks.{EntryState}
use Rattle.copy_plan.specs.{declared.plan.Planned.Planned, declared.stop.ReaderEnd.ReaderEnd}
use Rattle.copy_plan.specs.{declared.stop.WorkerEnd.WorkerEnd, Plans.fatal_of, Plans.up_to, Stops.IfFinished}
use Rattle.copy_plan.specs.Stops.{IfTaken}
use Rattle.copy_plan.specs.declared.TheConstants.{ENDED_CELL, SINK_PIPE, SOURCE_PIPE}
use Rattle.copy_turns.specs.{Watched.ShowsPieces, Work.Counted, Work.SignalsStay}
use Rattle.copy_turns.specs.Turns.{IsTooLong, IsReaderStop, IsRelayStop, IsWriterStop, RaisedFor, SinkRises}

-- A task that is to do the work of a worker owes nothing, and left no entry at the completion of the copy; so it is
-- afterwards, and its list has grown.
pub record IsIdler (k : Known) : Type 0 where
  pub clean : IsClean k
  pub off : LeftOff ENDED_CELL k

pub record Served (old new : Known) : Type 0 where
  pub idler : IsIdler new
  pub domain : new.domain ≡ old.domain
  pub grows : Grows old new

-- It completed the completion of the copy, as the last that it did.
pub record Completes (old new : Known) : Type 0 where
  pub mid : Known
  pub before : Grows old mid
  pub completed : HasCompleted mid new ENDED_CELL

-- The claim of end k was refused, and the task has it no more than before.
pub record Refused (k : ℕ) (old new : Known) : Type 0 where
  pub refused : was_refused k new.view.items ≡ true
  pub mine : (end_at k new).mine ≡ (end_at k old).mine

-- A reader that writes into pipe p. The source gave some bytes, `read` of them, and a front went into the pipe: all of them, up to the
-- source's end, and each counted, where it finished. It sent the planned signals that were due, as they became due: those
-- up to 0 at its beginning, and those up to `read` in all.
pub record ReaderWorked (p : ℕ) (old new : Known) (left_old left_new : Option (List ℕ)) (faults_old faults_new : ℕ)
    (targets : List ℕ) (plan : List Planned) (ended : ReaderEnd) : Type 0 where
  pub served : Served old new
  pub claims : (k : ℕ) → k ≢ write_end p → (end_at k new).mine ≡ (end_at k old).mine
  pub taken : IfTaken ended.stop (Refused (write_end p) old new) ((writing p new).mine ≡ true)
  pub given : List ℕ
  pub front : List ℕ
  pub rest : List ℕ
  pub left : left_old ≡ prepend_known given left_new
  pub read : ended.read ≡ length given
  pub parts : given ≡ front ++ rest
  pub sent : IfTaken ended.stop (front ≡ []) (moved_bytes (writing p new) ≡ front)
  pub all : IfFinished ended.stop (rest ≡ [])
  pub whole : IfFinished ended.stop (IfSome left_new (λ bytes. bytes ≡ []))
  pub n : ℕ
  pub counted : Counted n old new
  pub counts : IfFinished ended.stop (n ≡ length given)
  pub signals : IfTaken ended.stop (SignalsStay old new) (RaisedFor old new targets 0 ended.read plan)
  pub due : List Planned
  pub dues : IfTaken ended.stop (due ≡ []) (due ≡ up_to ended.read plan)
  pub sends : ended.sent ≡ length due
  pub kills : ended.kills ≡ length (fatal_of due)
  pub long : IsTooLong (Some ended.stop) ended.read
  pub later : faults_old ≤ faults_new
  pub cause : IfTaken ended.stop (Unit {0}) (IsReaderStop p old new (HasRisen faults_old faults_new) ended.stop)

-- A relay. A front of what it got from the first pipe went into the second: all of it, up to the first pipe's end, and
-- each byte counted, where it finished.
pub record RelayWorked (old new : Known) (ended : WorkerEnd) : Type 0 where
  pub served : Served old new
  pub claims : (k : ℕ) → k ≢ read_end SOURCE_PIPE → k ≢ write_end SINK_PIPE
      → (end_at k new).mine ≡ (end_at k old).mine
  pub taken : IfTaken ended.stop (Refused (read_end SOURCE_PIPE) old new ⊎ Refused (write_end SINK_PIPE) old new)
      (((reading SOURCE_PIPE new).mine ≡ true) × ((writing SINK_PIPE new).mine ≡ true))
  pub rest : List ℕ
  pub sent : IfTaken ended.stop (Unit {0})
      (moved_bytes (reading SOURCE_PIPE new) ≡ moved_bytes (writing SINK_PIPE new) ++ rest)
  pub all : IfFinished ended.stop (rest ≡ [])
  pub n : ℕ
  pub counted : Counted n old new
  pub counts : IfFinished ended.stop (n ≡ length (moved_bytes (reading SOURCE_PIPE new)))
  pub moved : ended.moved ≡ n % 2 ^ 64
  pub signals : SignalsStay old new
  pub cause : IfTaken ended.stop (Unit {0}) (IsRelayStop SOURCE_PIPE SINK_PIPE old new ended.stop)

-- A writer that reads pipe p. A front of what it got from the pipe went into the sink, and was shown piece by piece: all
-- of it, up to the pipe's end, and each byte counted, where it finished.
pub record WriterWorked (p : ℕ) (old new : Known) (held_old held_new : Option (List ℕ)) (faults_old faults_new : ℕ)
    (wants_old wants_new : ℕ) (seen_old seen_new : List EntryState) (ended : WorkerEnd) : Type 0 where
  pub served : Served old new
  pub claims : (k : ℕ) → k ≢ read_end p → (end_at k new).mine ≡ (end_at k old).mine
  pub taken : IfTaken ended.stop (Refused (read_end p) old new) ((reading p new).mine ≡ true)
  pub front : List ℕ
  pub rest : List ℕ
  pub held : held_new ≡ append_known held_old front
  pub shows : ShowsPieces seen_old seen_new front (Some ended.stop)
  pub got : IfTaken ended.stop (front ≡ []) (moved_bytes (reading p new) ≡ front ++ rest)
  pub all : IfFinished ended.stop (rest ≡ [])
  pub n : ℕ
  pub counted : Counted n old new
  pub counts : IfFinished ended.stop (n ≡ length front)
  pub moved : ended.moved ≡ n % 2 ^ 64
  pub signals : SignalsStay old new
  pub later : faults_old ≤ faults_new
  pub rises : SinkRises faults_old faults_new wants_old wants_new (Some ended.stop)
  pub cause : IfTaken ended.stop (Unit {0})
      (IsWriterStop p old new (HasRisen faults_old faults_new) (HasRisen wants_old wants_new) ended.stop)

-- And each of them completed the completion of the copy at its end, however it ended.
pub record ReaderDid (p : ℕ) (old new : Known) (left_old left_new : Option (List ℕ)) (faults_old faults_new : ℕ)
    (targets : List ℕ) (plan : List Planned) (ended : ReaderEnd) : Type 0 where
  pub worked : ReaderWorked p old new left_old left_new faults_old faults_new targets plan ended
  pub completes : Completes old new

pub record RelayDid (old new : Known) (ended : WorkerEnd) : Type 0 where
  pub worked : RelayWorked old new ended
  pub completes : Completes old new

pub record WriterDid (p : ℕ) (old new : Known) (held_old held_new : Option (List ℕ)) (faults_old faults_new : ℕ)
    (wants_old wants_new : ℕ) (seen_old seen_new : List EntryState) (ended : WorkerEnd) : Type 0 where
  pub worked : WriterWorked p old new held_old held_new faults_old faults_new wants_old wants_new seen_old seen_new ended
  pub completes : Completes old new
