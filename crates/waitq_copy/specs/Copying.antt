-- To be believed.
-- What a copy command leaves, and which cause each of its answers has.
use Rattle.std.specs.Prelude.{ℕ, ◌≡◌, ◌+◌, ◌*◌, ◌%◌, ◌^◌, ◌<◌, ◌≤◌, ◌++◌, ◌⊎◌, List, [], ◌∷◌, map, length}
use Rattle.std.specs.Prelude.{codes, decimal}
use Rattle.std.specs.Prelude.{Option, None, Some, IsSome, IfSome, Result, Ok, Err}
use Rattle.std.specs.Io.KnownBytes.{append_known}
use Rattle.atomic_table.specs.Seated.{TableId}
use Rattle.edge_io.specs.{declared.sink.SinkFault.SinkFault, Faults.HasRisen, Text.HoldsPrefix}
use Rattle.edge_io.specs.Folders.{Files, HasBytes, HasNone, HoldsNothing, Stores}
use Rattle.edge_io.specs.declared.sink.SinkFault.TheVariants as sink
use Rattle.bit_wait.specs.declared.wait_calls.BitEnd.{BitEnd}
use Rattle.wait_rule.specs.{declared.journal.Journal.Journal, Ends.WasWorn, Ends.worn_adds, Places.queued_at}
use Rattle.wait_rule.specs.{Says.IsShown, Journals.has_of, Known.Known, TallyLaws.tally_in}
use Rattle.func_head.specs.Walks.{EntryState, told_by}
use Rattle.copy_plan.specs.{declared.TheConstants.COUNTED_PAGE, declared.TheConstants.LONGEST}
use Rattle.copy_plan.specs.{declared.plan.Planned.Planned, declared.stop.ReaderEnd.ReaderEnd, declared.stop.Stop.Stop}
use Rattle.copy_plan.specs.{declared.stop.WorkerEnd.WorkerEnd, Plans.fatal_of, Plans.up_to}
use Rattle.copy_plan.specs.declared.stop.Stop.TheVariants as stop
use Rattle.copy_ends.specs.Copied.{Copied, HoldsAll, HoldsGiven, NoneTaken, Watched}
use Rattle.waitq_alone.specs.{Drill.number_line, declared.fault.Fault.Fault}
use Rattle.waitq_alone.specs.declared.fault.Fault.TheVariants as fault

-- What a copy works on: the files of its folder and the two counts of the folder's faults; what its output holds, and
-- the count of that one's faults.
pub record Outside : Type 0 where
  pub files : Option Files
  pub reads : ℕ
  pub writes : ℕ
  pub held : Option (List ℕ)
  pub faults : ℕ

abbrev pub outside : Option Files → ℕ → ℕ → Option (List ℕ) → ℕ → Outside
outside files reads writes held faults =
    record { files = files; reads = reads; writes = writes; held = held; faults = faults }

-- a file has this name, where the files are told
abbrev pub HasFile : Option Files → List ℕ → Type 0
HasFile told name = IfSome told (λ files. IsSome (files name))

-- Why no source was opened, and why no sink was made.
abbrev pub IsOpenFault : Option Files → ℕ → ℕ → List ℕ → Fault → Type 0
IsOpenFault files reads_old reads_new src fault.Read = HasRisen reads_old reads_new
IsOpenFault files reads_old reads_new src (fault.NoFile name) =
    (name.now ≡ src) × (HasNone files src × (reads_new ≡ reads_old))
IsOpenFault files reads_old reads_new src fault.Memory = Unit {0}
IsOpenFault files reads_old reads_new src _ = ⊥

abbrev pub IsMakeFault : ℕ → ℕ → Fault → Type 0
IsMakeFault writes_old writes_new fault.Write = HasRisen writes_old writes_new
IsMakeFault writes_old writes_new fault.Memory = Unit {0}
IsMakeFault writes_old writes_new _ = ⊥

-- Why a copy did not begin.
pub record IsStartFault (files : Option Files) (reads_old reads_new writes_old writes_new : ℕ) (src : List ℕ)
    (why : Fault) : Type 0 where
  pub cause : IsOpenFault files reads_old reads_new src why
      ⊎ (HasFile files src × (reads_new ≡ reads_old) × IsMakeFault writes_old writes_new why)

-- What a copy that did not begin leaves of its task: for want of memory it may have given numbers out to others and
-- joined them again, and no list has a step more; with any other fault it is as it was.
abbrev pub LeavesTask : Known → Known → Fault → Type 0
LeavesTask old new fault.Memory = (number : ℕ) → has_of number new.view ≡ has_of number old.view
LeavesTask old new _ = new ≡ old

-- It did not begin: no file was changed, nothing was written, and no task made a step. The fault has its cause.
pub record NotBegun (task_old task_new : Known) (old new : Outside) (HasCause : Fault → Type 0)
    (answer : Result (Unit {0}) Fault) : Type 0 where
  pub why : Fault
  pub answered : answer ≡ Err why
  pub task : LeavesTask task_old task_new why
  pub files : new.files ≡ old.files
  pub held : new.held ≡ old.held
  pub faults : new.faults ≡ old.faults
  pub cause : HasCause why

-- the lines of the watchers, by what each tells, from a place on
abbrev pub watch_line : ℕ → ℕ → List ℕ
watch_line place told = codes "watch " ++ decimal place ++ number_line (codes " ") told

abbrev pub watch_lines : ℕ → List ℕ → List ℕ
watch_lines place [] = []
watch_lines place (told ∷ more) = watch_line place told ++ watch_lines (place + 1) more

-- what is told of a copy: the bytes that were read, those that were counted, what the watchers tell, and how many
-- signals were sent
abbrev pub copy_text : ℕ → ℕ → List ℕ → ℕ → List ℕ
copy_text read moved told sent = codes "copied " ++ decimal read ++ codes " bytes\n"
    ++ number_line (codes "moved ") moved ++ watch_lines 0 told ++ number_line (codes "signals ") sent

abbrev pub told_pieces : List EntryState → List ℕ
told_pieces entries = map (λ e. told_by e.func) entries

-- The fault of a copy, by how it stopped and by what storing its sink answered: the first of the causes in this order.
abbrev pub fault_after : Stop → Result (Unit {0}) SinkFault → Option Fault
fault_after stop.Memory stored = Some fault.Memory
fault_after how (Err sink.OutOfMemory) = Some fault.Memory
fault_after (stop.Worn head place) stored = Some (fault.Worn place)
fault_after stop.ReadFault stored = Some fault.Read
fault_after stop.WriteFault stored = Some fault.Write
fault_after how (Err sink.Failed) = Some fault.Write
fault_after stop.Long stored = Some fault.Long
fault_after stop.Killed stored = Some fault.Killed
fault_after how (Ok x) = None

-- The text is written whole, or a front of it.
abbrev pub WritesTold : List ℕ → Option (List ℕ) → Option (List ℕ) → ℕ → ℕ → Result (Unit {0}) Fault → Type 0
WritesTold text old new faults_old faults_new (Ok x) = new ≡ append_known old text
WritesTold text old new faults_old faults_new (Err fault.Write) =
    HoldsPrefix old new text × HasRisen faults_old faults_new
WritesTold text old new faults_old faults_new (Err fault.Memory) = HoldsPrefix old new text
WritesTold text old new faults_old faults_new (Err _) = ⊥

-- A fault is answered and nothing written; or the text is.
abbrev pub Concludes : Option Fault → List ℕ → Option (List ℕ) → Option (List ℕ) → ℕ → ℕ
    → Result (Unit {0}) Fault → Type 0
Concludes (Some why) text old new faults_old faults_new answer = (answer ≡ Err why) × (new ≡ old)
Concludes None text old new faults_old faults_new answer = WritesTold text old new faults_old faults_new answer

-- What the sink held is the file of this name, and no other file is changed; after a fault none is.
abbrev pub IsFileStored : Result (Unit {0}) SinkFault → Option Files → Option Files → List ℕ → Option (List ℕ) → Type 0
IsFileStored (Ok x) old new dst held = Stores old new dst held
IsFileStored (Err e) old new dst held = new ≡ old

-- A hold of a worker, or of the controller, found no place, and stands in the task's journal; and at least 2^37 entries
-- were queued at its head, in the table that showed the lists as they were joined.
pub record WasTableFull (task : Known) (place : ℕ) : Type 0 where
  pub number : ℕ
  pub head : ℕ
  pub worn : WasWorn number (has_of number task.view) head place
  pub shown : Journal
  pub law : IsShown shown
  pub late : worn_adds ≤ queued_at head law.table.history

-- The cause of each answer of a copy, or of a merge, that ran.
pub record RunCauses (task : Known) (old new : Outside) (how : Stop) (answer : Result (Unit {0}) Fault) : Type 0 where
  pub read : answer ≡ Err fault.Read → HasRisen old.reads new.reads
  pub write : answer ≡ Err fault.Write → HasRisen old.writes new.writes ⊎ HasRisen old.faults new.faults
  pub worn : (place : ℕ) → answer ≡ Err (fault.Worn place) → WasTableFull task place
  pub finished : answer ≡ Ok tt → how ≡ stop.Finished

-- And of a copy.
pub record Causes (task : Known) (old new : Outside) (reader : ReaderEnd) (how : Stop) (moved : ℕ)
    (answer : Result (Unit {0}) Fault) : Type 0 where
  pub run : RunCauses task old new how answer
  pub long : answer ≡ Err fault.Long → LONGEST < reader.read
  pub killed : answer ≡ Err fault.Killed → 0 < reader.kills
  pub spared : answer ≡ Ok tt → reader.kills ≡ 0
  pub short : answer ≡ Ok tt → reader.read ≤ LONGEST
  pub counted : answer ≡ Ok tt → moved ≡ 3 * reader.read

-- The four tasks of a copy did their work over a source that was opened and a sink that was made, and the watchers were
-- shown the pieces that went into the sink; then the source was closed, and the sink was stored. The planned signals
-- whose offset the source had reached were sent, and no other: of a plain one nothing is told but that it was sent.
pub record Through (domain : TableId) (task : Known) (files_old files_new : Option Files)
    (reads_old reads_new writes_old writes_new : ℕ) (src dst : List ℕ) (plan : List Planned)
    (seen_old seen_new : List EntryState) (reader : ReaderEnd) (how : Stop) (moved : ℕ)
    (stored : Result (Unit {0}) SinkFault) : Type 0 where
  pub left_old : Option (List ℕ)
  pub left_new : Option (List ℕ)
  pub held_old : Option (List ℕ)
  pub held_new : Option (List ℕ)
  pub read_faults : ℕ
  pub write_faults : ℕ
  pub wants_old : ℕ
  pub wants_new : ℕ
  pub relay : WorkerEnd
  pub writer : WorkerEnd
  pub found : HasBytes files_old src left_old
  pub empty : HoldsNothing files_old held_old
  pub total : Result ℕ BitEnd
  pub copied : Copied domain task left_old left_new 0 read_faults held_old held_new 0 write_faults wants_old wants_new
      seen_old seen_new plan reader relay writer how total
  pub front : HoldsGiven left_old left_new held_old held_new
  pub watched : Watched left_old left_new held_old held_new seen_old seen_new writer.stop
  pub whole : how ≡ stop.Finished → HoldsAll left_old held_old held_new seen_old seen_new reader relay writer moved
  pub size : how ≡ stop.Finished → IfSome left_old (λ bytes. reader.read ≡ length bytes)
  pub sent : reader.sent ≡ length (up_to reader.read plan)
  pub kills : reader.kills ≡ length (fatal_of (up_to reader.read plan))
  pub tally : moved ≡ tally_in COUNTED_PAGE task.view % 2 ^ 64
  pub none_taken : NoneTaken reader relay writer
  pub stores : IsFileStored stored files_old files_new dst held_new
  pub reads : 0 < read_faults → HasRisen reads_old reads_new
  pub writes : 0 < write_faults → HasRisen writes_old writes_new
  pub refused : stored ≡ Err sink.Failed → HasRisen writes_old writes_new

-- It ran, and its text was written, or its fault answered.
pub record Ran (domain : TableId) (task : Known) (old new : Outside) (src dst : List ℕ) (plan : List Planned)
    (watchers : List EntryState) (answer : Result (Unit {0}) Fault) : Type 0 where
  pub reader : ReaderEnd
  pub how : Stop
  pub moved : ℕ
  pub stored : Result (Unit {0}) SinkFault
  pub seen : List EntryState
  pub through : Through domain task old.files new.files old.reads new.reads old.writes new.writes src dst plan watchers
      seen reader how moved stored
  pub told : Concludes (fault_after how stored) (copy_text reader.read moved (told_pieces seen) reader.sent) old.held
      new.held old.faults new.faults answer
  pub causes : Causes task old new reader how moved answer

-- What a copy command leaves.
abbrev pub CopyLeft : TableId → Known → Known → Outside → Outside → List ℕ → List ℕ → List Planned
    → List EntryState → Result (Unit {0}) Fault → Type 0
CopyLeft domain task_old task_new old new src dst plan watchers answer =
    NotBegun task_old task_new old new (IsStartFault old.files old.reads new.reads old.writes new.writes src) answer
    ⊎ Ran domain task_new old new src dst plan watchers answer
