-- To be believed.
-- The programs of the tasks of a copy: what each makes, from its first step to its last, is whole calls one behind the
-- other, each by its own trail.
use Rattle.std.specs.Prelude.{ℕ, ◌≡◌, ◌==◌, ◌+◌, ◌<◌, ◌≤◌, ◌++◌, Bool, true, false, Option, None, Some, Result, Ok, Err}
use Rattle.std.specs.Prelude.{List, [], length, take}
use Rattle.std.specs.Io.KnownBytes.{prepend_known}
use Rattle.atomic_table.specs.Seated.{TableId}
use Rattle.wait_model.specs.declared.queues.Walked.{Walked}
use Rattle.wait_model.specs.declared.tasks.SleepState.TheVariants as state
use Rattle.wait_rule.specs.declared.journal.EndAct.TheVariants as act
use Rattle.wait_rule.specs.declared.journal.Item.TheVariants as item
use Rattle.wait_rule.specs.{Journals.has_of, Known.Known, Pipes.read_end, Pipes.write_end, Says.added, Says.newcomer}
use Rattle.wait_event.specs.declared.wait_events.WaitEnd.TheVariants as wait_end
use Rattle.bit_wait.specs.{Clears.HasClearedBit, declared.wait_calls.BitEnd.BitEnd}
use Rattle.bit_wait.specs.declared.wait_calls.BitEnd.TheVariants as bit_end
use Rattle.completion_cell.specs.{AwaitEnds.EndsAwait, Completes.HasCompleted}
use Rattle.page_lock.specs.PageEnds.{EndsPageLock}
use Rattle.wait_pipe.specs.Trails.{ClosesEnd}
use Rattle.copy_plan.specs.{declared.plan.Planned.Planned, declared.stop.Halt.Halt, declared.stop.ReaderEnd.ReaderEnd}
use Rattle.copy_plan.specs.{declared.stop.Stop.Stop, declared.stop.WorkerEnd.WorkerEnd, Plans.due_in, Stops.stop_of}
use Rattle.copy_plan.specs.declared.TheConstants.{COUNTED_PAGE, ENDED_CELL, LONGEST, PIECE, SINK_PIPE, SOURCE_PIPE}
use Rattle.copy_plan.specs.declared.stop.Stop.TheVariants as stop
use Rattle.copy_turns.specs.{Raises.sent_to, Watched.IsPiece, Work.TookOwn}
use Rattle.copy_turns.specs.Transfers.{GetsPiece, PutsWhole, SendsEach}
use Rattle.copy_ends.specs.Copied.{WaitsTimes, worker_numbers}
use Rattle.flow_copy.specs.PageWaits.{PageWaits}

-- It added n to the tally of the page of the copy, which it had locked, and found this there; and unlocked the page.
abbrev pub AddsLocked : ℕ → ℕ → Known → Known → Type 0
AddsLocked n found old new = (walked : Walked) × HasClearedBit (added old (item.Tally COUNTED_PAGE n found)) new
    COUNTED_PAGE 0 walked

-- It counts n bytes, or is halted before.
abbrev pub CountsBytes : ℕ → Known → Known → Result (Unit {0}) Halt → Type 0
CountsBytes n old new (Ok u) = (locked : Known) × (found : ℕ) × PageWaits old locked (Ok tt)
    × AddsLocked n found locked new
CountsBytes n old new (Err h) = PageWaits old new (Err h)

-- It puts all the bytes into the pipe of end k, and then counts them.
pub data HandsBytes (k : ℕ) (old new : Known) (bytes : List ℕ) : Result (Unit {0}) Halt → Type 0 where
  put_halted : (h : Halt) → PutsWhole k old new bytes (Err h) → HandsBytes k old new bytes (Err h)
  put_all : (put : Known) (r : Result (Unit {0}) Halt) → PutsWhole k old put bytes (Ok tt)
      → CountsBytes (length bytes) put new r → HandsBytes k old new bytes r

-- where such a part was halted, the worker stops
abbrev pub stops_by : Result (Unit {0}) Halt → Option Stop
stops_by (Ok u) = None
stops_by (Err h) = Some (stop_of h)

-- A turn begins with a take of the own signals, and is over where a fatal one was among them. That of a reader whose
-- source gave `read` bytes before: the source is at its end, or fails, or gives a piece; then the signals are sent that
-- are due then; and then the piece is handed on, unless the source gave too many bytes. That the source is at its end,
-- or failed, is no step of the task: `Reading` says it. It writes into pipe p.
pub data ReaderTurn (p : ℕ) (targets : List ℕ) (plan : List Planned) (read : ℕ) (old new : Known) : List ℕ → Option Stop
    → Type 0 where
  reader_killed : TookOwn old new true → ReaderTurn p targets plan read old new [] (Some stop.Killed)
  source_ended : TookOwn old new false → ReaderTurn p targets plan read old new [] (Some stop.Finished)
  source_failed : TookOwn old new false → ReaderTurn p targets plan read old new [] (Some stop.ReadFault)
  source_long : (own : Known) (piece : List ℕ) → TookOwn old own false → IsPiece piece
      → SendsEach (sent_to targets (due_in (read + 1) (read + length piece) plan)) own new
      → LONGEST < read + length piece → ReaderTurn p targets plan read old new piece (Some stop.Long)
  reader_hands : (own sent : Known) (piece : List ℕ) (r : Result (Unit {0}) Halt) → TookOwn old own false
      → IsPiece piece → read + length piece ≤ LONGEST
      → SendsEach (sent_to targets (due_in (read + 1) (read + length piece) plan)) own sent
      → HandsBytes (write_end p) sent new piece r → ReaderTurn p targets plan read old new piece (stops_by r)

-- A worker gets a piece at end k: it is halted meanwhile, or the pipe is at its end, or some bytes come, into a buffer of
-- `PIECE` bytes, and it does this with them.
pub data GetsAnd (k : ℕ) (Passes : List ℕ → Known → Known → Option Stop → Type 0) (old new : Known)
    : List ℕ → Option Stop → Type 0 where
  get_halted : (buf : List ℕ) (h : Halt) → GetsPiece k old new buf (Err h)
      → GetsAnd k Passes old new [] (Some (stop_of h))
  pipe_ended : (buf : List ℕ) → GetsPiece k old new buf (Ok 0) → GetsAnd k Passes old new [] (Some stop.Finished)
  got_piece : (got : Known) (buf : List ℕ) (n : ℕ) (how : Option Stop) → length buf ≡ PIECE → 0 < n
      → GetsPiece k old got buf (Ok n) → Passes (take n buf) got new how
      → GetsAnd k Passes old new (take n buf) how

-- its turn
pub data GetterTurn (k : ℕ) (Passes : List ℕ → Known → Known → Option Stop → Type 0) (old new : Known)
    : List ℕ → Option Stop → Type 0 where
  getter_killed : TookOwn old new true → GetterTurn k Passes old new [] (Some stop.Killed)
  getter_gets : (own : Known) (piece : List ℕ) (how : Option Stop) → TookOwn old own false
      → GetsAnd k Passes own new piece how → GetterTurn k Passes old new piece how

-- A relay hands the piece on, into pipe q.
abbrev pub RelaysPiece : ℕ → List ℕ → Known → Known → Option Stop → Type 0
RelaysPiece q piece old new how = (r : Result (Unit {0}) Halt) × HandsBytes (write_end q) old new piece r
    × (how ≡ stops_by r)

-- A writer writes it into the sink, which is no step of the task, and then counts it, unless the sink fails.
pub data SinksPiece (piece : List ℕ) (old new : Known) : Option Stop → Type 0 where
  sink_failed : new ≡ old → SinksPiece piece old new (Some stop.WriteFault)
  sink_wanted : new ≡ old → SinksPiece piece old new (Some stop.Memory)
  sink_took : (r : Result (Unit {0}) Halt) → CountsBytes (length piece) old new r
      → SinksPiece piece old new (stops_by r)

abbrev pub RelayTurn : List ℕ → Known → Known → Option Stop → Type 0
RelayTurn piece old new how = GetterTurn (read_end SOURCE_PIPE) (RelaysPiece SINK_PIPE) old new piece how

abbrev pub WriterTurn : ℕ → List ℕ → Known → Known → Option Stop → Type 0
WriterTurn p piece old new how = GetterTurn (read_end p) (λ text a b h. SinksPiece text a b h) old new piece how

-- Turns of a worker one after another, after each of which but the last it went on, and all the bytes that came in
-- them. What a turn makes may depend on how many came before it; `before` came before the first.
pub data ByTurns (Turn : ℕ → List ℕ → Known → Known → Option Stop → Type 0) (before : ℕ) (old : Known)
    : List ℕ → Known → Option Stop → Type 0 where
  no_turn : ByTurns Turn before old [] old None
  a_turn : (bytes piece : List ℕ) (mid new : Known) (how : Option Stop) → ByTurns Turn before old bytes mid None
      → Turn (before + length bytes) piece mid new how → ByTurns Turn before old (bytes ++ piece) new how

abbrev pub ReaderTurns : ℕ → List ℕ → List Planned → ℕ → Known → List ℕ → Known → Option Stop → Type 0
ReaderTurns p targets plan before old bytes new how =
    ByTurns (λ read piece a b h. ReaderTurn p targets plan read a b piece h) before old bytes new how

abbrev pub RelayTurns : Known → List ℕ → Known → Option Stop → Type 0
RelayTurns old bytes new how = ByTurns (λ read piece a b h. RelayTurn piece a b h) 0 old bytes new how

abbrev pub WriterTurns : ℕ → Known → List ℕ → Known → Option Stop → Type 0
WriterTurns p old bytes new how = ByTurns (λ read piece a b h. WriterTurn p piece a b h) 0 old bytes new how

-- it claimed end k, and whether it has it by that
abbrev pub ClaimsEnd : ℕ → Known → Known → Bool → Type 0
ClaimsEnd k old new has = (found : ℕ) × (new ≡ added old (item.Piped k act.Claim found)) × (has ≡ (found == 0))

-- The work of each, from the claim of its ends to their closing, or to a claim that was refused.
pub data ReaderWorks (p : ℕ) (targets : List ℕ) (plan : List Planned) (old new : Known) : List ℕ → Stop → Type 0 where
  reader_refused : ClaimsEnd (write_end p) old new false
      → ReaderWorks p targets plan old new [] stop.Taken
  reader_works : (opened sent last : Known) (bytes : List ℕ) (how : Stop)
      → ClaimsEnd (write_end p) old opened true → SendsEach (sent_to targets (due_in 0 0 plan)) opened sent
      → ReaderTurns p targets plan 0 sent bytes last (Some how) → ClosesEnd (write_end p) last new
      → ReaderWorks p targets plan old new bytes how

pub data RelayWorks (old new : Known) : Stop → Type 0 where
  relay_refused : ClaimsEnd (read_end SOURCE_PIPE) old new false → RelayWorks old new stop.Taken
  relay_refused_sink : (opened claimed : Known) → ClaimsEnd (read_end SOURCE_PIPE) old opened true
      → ClaimsEnd (write_end SINK_PIPE) opened claimed false → ClosesEnd (read_end SOURCE_PIPE) claimed new
      → RelayWorks old new stop.Taken
  relay_works : (opened both last closed : Known) (bytes : List ℕ) (how : Stop)
      → ClaimsEnd (read_end SOURCE_PIPE) old opened true → ClaimsEnd (write_end SINK_PIPE) opened both true
      → RelayTurns both bytes last (Some how) → ClosesEnd (read_end SOURCE_PIPE) last closed
      → ClosesEnd (write_end SINK_PIPE) closed new → RelayWorks old new how

pub data WriterWorks (p : ℕ) (old new : Known) : Stop → Type 0 where
  writer_refused : ClaimsEnd (read_end p) old new false → WriterWorks p old new stop.Taken
  writer_works : (opened last : Known) (bytes : List ℕ) (how : Stop) → ClaimsEnd (read_end p) old opened true
      → WriterTurns p opened bytes last (Some how) → ClosesEnd (read_end p) last new
      → WriterWorks p old new how

-- And the last thing that each does is to complete the completion of the copy.
abbrev pub ThenCompletes : (Known → Known → Type 0) → Known → Known → Type 0
ThenCompletes Works old new = (mid : Known) × Works old mid × HasCompleted mid new ENDED_CELL

abbrev pub ReaderGoes : ℕ → List ℕ → List Planned → Known → Known → List ℕ → Stop → Type 0
ReaderGoes p targets plan old new bytes how = ThenCompletes (λ a b. ReaderWorks p targets plan a b bytes how) old new

abbrev pub RelayGoes : Known → Known → Stop → Type 0
RelayGoes old new how = ThenCompletes (λ a b. RelayWorks a b how) old new

abbrev pub WriterGoes : ℕ → Known → Known → Stop → Type 0
WriterGoes p old new how = ThenCompletes (λ a b. WriterWorks p a b how) old new

-- A wait for the completion that found no place. No signal ends one.
abbrev pub LosesWait : Known → Known → BitEnd → Type 0
LosesWait old new (bit_end.Worn h p) = EndsAwait old new ENDED_CELL state.Uninterruptible (Err (wait_end.Worn h p))
LosesWait old new (bit_end.Interrupted seen) = ⊥

-- It locks the page, uninterruptibly, adds 0 to its tally, which it answers, and unlocks it; or finds no place.
abbrev pub ReadsLocked : Known → Known → Result ℕ BitEnd → Type 0
ReadsLocked old new (Ok total) = (locked : Known)
    × EndsPageLock old locked COUNTED_PAGE state.Uninterruptible (Ok tt) × AddsLocked 0 total locked new
ReadsLocked old new (Err (bit_end.Worn h p)) = EndsPageLock old new COUNTED_PAGE state.Uninterruptible
    (Err (bit_end.Worn h p))
ReadsLocked old new (Err (bit_end.Interrupted seen)) = ⊥

-- The controller waits for each of m workers, and reads the tally then; or one of the waits found no place.
pub data ControllerGoes (m : ℕ) (old new : Known) : Result ℕ BitEnd → Type 0 where
  saw_all : (waited : Known) (r : Result ℕ BitEnd) → WaitsTimes m old waited → ReadsLocked waited new r
      → ControllerGoes m old new r
  lost_wait : (n : ℕ) (waited : Known) (e : BitEnd) → n < m → WaitsTimes n old waited → LosesWait waited new e
      → ControllerGoes m old new (Err e)

-- What a source gave while its reader made this of it, and how many bytes it had given in all before and after.
pub record FromSource (left_old left_new : Option (List ℕ)) (read_old read_new : ℕ) (Made : List ℕ → Type 0) : Type 0
  where
    pub bytes : List ℕ
    pub left : left_old ≡ prepend_known bytes left_new
    pub read : read_new ≡ read_old + length bytes
    pub made : Made bytes

-- The four tasks of a copy, whose lists stand in the journal of the task that joined them, went by their programs, from
-- their first steps to their last.
pub record FollowsPrograms (domain : TableId) (new : Known) (left_old left_new : Option (List ℕ)) (plan : List Planned)
    (reader : ReaderEnd) (relay writer : WorkerEnd) (total : Result ℕ BitEnd) : Type 0 where
  pub one : Known
  pub two : Known
  pub three : Known
  pub four : Known
  pub reads : FromSource left_old left_new 0 reader.read
      (λ bytes. ReaderGoes SOURCE_PIPE worker_numbers plan (newcomer domain 1 2 0) one bytes reader.stop)
  pub relays : RelayGoes (newcomer domain 2 3 0) two relay.stop
  pub writes : WriterGoes SINK_PIPE (newcomer domain 3 4 0) three writer.stop
  pub controls : ControllerGoes 3 (newcomer domain 4 5 0) four total
  pub lists : (has_of 1 new.view ≡ one.view.items) × (has_of 2 new.view ≡ two.view.items)
      × (has_of 3 new.view ≡ three.view.items) × (has_of 4 new.view ≡ four.view.items)
