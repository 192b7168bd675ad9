-- To be believed.
-- What a whole copy did.
use Rattle.std.specs.Prelude.{ℕ, zero, suc, ◌≡◌, ◌≤◌, ◌*◌, ◌%◌, ◌^◌, ◌++◌}
use Rattle.std.specs.Prelude.{Option, Some, Result, Ok, Err, List, [], ◌∷◌, IfSome}
use Rattle.std.specs.Io.KnownBytes.{append_known, prepend_known}
use Rattle.atomic_table.specs.Seated.{TableId}
use Rattle.bit_wait.specs.declared.wait_calls.BitEnd.{BitEnd}
use Rattle.bit_wait.specs.declared.wait_calls.BitEnd.TheVariants as bit_end
use Rattle.wait_model.specs.declared.tasks.SleepState.TheVariants as state
use Rattle.wait_rule.specs.{Aside.Grows, Ends.WasWorn, Ends.worn_adds, declared.journal.Journal.Journal}
use Rattle.wait_rule.specs.{Journals.has_of, Journals.joined_with, Known.Known, PipeSays.EndsStay, Places.queued_at}
use Rattle.wait_rule.specs.Says.{FindsTally, IsShown, newcomer}
use Rattle.completion_cell.specs.AwaitEnds.{EndsAwait}
use Rattle.edge_io.specs.Text.{HoldsPrefix}
use Rattle.func_head.specs.Walks.{EntryState}
use Rattle.copy_plan.specs.{declared.plan.Planned.Planned, declared.stop.ReaderEnd.ReaderEnd, declared.stop.Stop.Stop}
use Rattle.copy_plan.specs.{declared.stop.WorkerEnd.WorkerEnd, Kinds.copy_stop}
use Rattle.copy_plan.specs.declared.TheConstants.{COUNTED_PAGE, ENDED_CELL, SINK_PIPE, SOURCE_PIPE}
use Rattle.copy_plan.specs.declared.stop.Stop.TheVariants as stop
use Rattle.copy_ends.specs.Did.{ReaderDid, RelayDid, Served, WriterDid}
use Rattle.copy_turns.specs.{Watched.ShowsPieces, Work.SignalsStay, Work.SumsStay}

-- A controller waited, and read the tally of the page: it owes nothing, as before, touched no pipe, added nothing and
-- raised no signal.
pub record Controlled (old new : Known) : Type 0 where
  pub served : Served old new
  pub ends : EndsStay old new
  pub sums : SumsStay old new
  pub signals : SignalsStay old new

-- the tally that it answers is one that it found
pub record ReadTally (old new : Known) (total : ℕ) : Type 0 where
  pub mid : Known
  pub before : Grows old mid
  pub finds : FindsTally mid.view COUNTED_PAGE total
  pub later : Grows mid new

-- it found no place in a hold; no signal ends a wait of it
abbrev pub IsControlEnd : Known → BitEnd → Type 0
IsControlEnd new (bit_end.Worn h p) = WasWorn new.view.number new.view.items h p
IsControlEnd new (bit_end.Interrupted seen) = ⊥

-- It waited for the completion of the copy, uninterruptibly, until it was done, and took one of its count.
abbrev pub AwaitsWorker : Known → Known → Type 0
AwaitsWorker old new = EndsAwait old new ENDED_CELL state.Uninterruptible (Ok tt)

-- so many times, one wait after another
abbrev pub WaitsTimes : ℕ → Known → Known → Type 0
WaitsTimes zero old new = new ≡ old
WaitsTimes (suc n) old new = (mid : Known) × WaitsTimes n old mid × AwaitsWorker mid new

-- It waited once for each of n workers, and read the tally then.
pub record CountsWorkers (n : ℕ) (old new : Known) (total : ℕ) : Type 0 where
  pub waited : Known
  pub waits : WaitsTimes n old waited
  pub reads : ReadTally waited new total

abbrev pub ControlEnds : ℕ → Known → Known → Result ℕ BitEnd → Type 0
ControlEnds n old new (Ok total) = CountsWorkers n old new total
ControlEnds n old new (Err e) = IsControlEnd new e

-- the stop of a controller, as that of a worker
abbrev pub control_stop : Result ℕ BitEnd → Stop
control_stop (Err (bit_end.Worn h p)) = stop.Worn h p
control_stop _ = stop.Finished

-- the journal of a task that joined others, one after another, and of one that joined four
abbrev pub joined_all : Journal → List Journal → Journal
joined_all v [] = v
joined_all v (w ∷ ws) = joined_all (joined_with v w) ws

abbrev pub joined_four : Journal → Journal → Journal → Journal → Journal → Journal
joined_four v a b c d = joined_all v (a ∷ b ∷ c ∷ d ∷ [])

-- the numbers of the reader's, the relay's and the writer's task
abbrev pub worker_numbers : List ℕ
worker_numbers = 1 ∷ 2 ∷ 3 ∷ []

-- Where the list of the task of this number notes that a head had no place left, at least 2^37 entries were queued there:
-- so it was in the table that showed all lists as they were joined.
abbrev pub NotesAreLate : (v : Journal) → IsShown v → ℕ → Known → Type 0
NotesAreLate v law t k = (h p : ℕ) → WasWorn t (has_of t k.view) h p → worn_adds ≤ queued_at h law.table.history

pub record WearsLate (new : Known) : Type 0 where
  pub shown : Journal
  pub law : IsShown shown
  pub reader : NotesAreLate shown law 1 new
  pub relay : NotesAreLate shown law 2 new
  pub writer : NotesAreLate shown law 3 new
  pub controller : NotesAreLate shown law 4 new

-- The four tasks of a copy did their work, and their lists stand in the journal of the task that joined them. The
-- controller answered `total`.
pub record Copied (domain : TableId) (new : Known) (left_old left_new : Option (List ℕ)) (reads_old reads_new : ℕ)
    (held_old held_new : Option (List ℕ)) (writes_old writes_new wants_old wants_new : ℕ)
    (seen_old seen_new : List EntryState) (plan : List Planned) (reader : ReaderEnd) (relay writer : WorkerEnd)
    (how : Stop) (total : Result ℕ BitEnd) : Type 0 where
  pub one : Known
  pub two : Known
  pub three : Known
  pub four : Known
  pub reads : ReaderDid SOURCE_PIPE (newcomer domain 1 2 0) one left_old left_new reads_old reads_new
      worker_numbers plan reader
  pub relays : RelayDid (newcomer domain 2 3 0) two relay
  pub writes : WriterDid SINK_PIPE (newcomer domain 3 4 0) three held_old held_new writes_old writes_new wants_old wants_new
      seen_old seen_new writer
  pub controls : Controlled (newcomer domain 4 5 0) four
  pub lists : (has_of 1 new.view ≡ one.view.items) × (has_of 2 new.view ≡ two.view.items)
      × (has_of 3 new.view ≡ three.view.items) × (has_of 4 new.view ≡ four.view.items)
  pub ends : ControlEnds 3 (newcomer domain 4 5 0) four total
  pub stops : how ≡ copy_stop (reader.stop ∷ relay.stop ∷ writer.stop ∷ control_stop total ∷ []) reader.kills
  pub late : WearsLate new

-- The sink holds a front of what the source gave.
pub record HoldsGiven (left_old left_new held_old held_new : Option (List ℕ)) : Type 0 where
  pub given : List ℕ
  pub left : left_old ≡ prepend_known given left_new
  pub held : HoldsPrefix held_old held_new given

-- The watchers were shown, piece by piece, what went into the sink, a front of what the source gave.
pub record Watched (left_old left_new held_old held_new : Option (List ℕ)) (seen_old seen_new : List EntryState)
    (how : Stop) : Type 0 where
  pub given : List ℕ
  pub front : List ℕ
  pub rest : List ℕ
  pub left : left_old ≡ prepend_known given left_new
  pub parts : given ≡ front ++ rest
  pub held : held_new ≡ append_known held_old front
  pub shows : ShowsPieces seen_old seen_new front (Some how)

-- All workers finished.
pub record AllFinished (reader : ReaderEnd) (relay writer : WorkerEnd) : Type 0 where
  pub reads : reader.stop ≡ stop.Finished
  pub relays : relay.stop ≡ stop.Finished
  pub writes : writer.stop ≡ stop.Finished

-- Where the copy finished, so did all workers; the source was read to its end, the sink holds all its bytes, and the
-- watchers were shown them all; and each byte was counted three times.
pub record HoldsAll (left_old held_old held_new : Option (List ℕ)) (seen_old seen_new : List EntryState)
    (reader : ReaderEnd) (relay writer : WorkerEnd) (tally : ℕ) : Type 0 where
  pub all : AllFinished reader relay writer
  pub bytes : IfSome left_old (λ bytes. held_new ≡ append_known held_old bytes)
  pub shows : IfSome left_old (λ bytes. ShowsPieces seen_old seen_new bytes (Some stop.Finished))
  pub moved : tally ≡ 3 * reader.read % 2 ^ 64

abbrev pub IsNotTaken : Stop → Type 0
IsNotTaken stop.Taken = ⊥
IsNotTaken _ = Unit {0}

abbrev pub NoneTaken : ReaderEnd → WorkerEnd → WorkerEnd → Type 0
NoneTaken reader relay writer = IsNotTaken reader.stop × IsNotTaken relay.stop × IsNotTaken writer.stop

-- A task of this Domain, of which neither the own list nor one that it joined has a step.
pub record HasNoSteps (table : TableId) (k : Known) : Type 0 where
  pub domain : k.domain ≡ table
  pub lists : (number : ℕ) → has_of number k.view ≡ []
