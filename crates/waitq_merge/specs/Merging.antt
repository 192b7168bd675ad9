-- To be believed.
-- What a merge command leaves, and which cause each of its answers has.
use Rattle.std.specs.Prelude.{ℕ, ◌≡◌, ◌+◌, ◌*◌, ◌%◌, ◌^◌, ◌<◌, ◌≤◌, ◌++◌, ◌⊎◌, List, codes, decimal, length}
use Rattle.std.specs.Prelude.{Option, IfSome, Result, Ok, Err}
use Rattle.atomic_table.specs.Seated.{TableId}
use Rattle.edge_io.specs.{declared.sink.SinkFault.SinkFault, Faults.HasRisen}
use Rattle.edge_io.specs.Folders.{Files, HasBytes, HoldsNothing}
use Rattle.edge_io.specs.declared.sink.SinkFault.TheVariants as sink
use Rattle.bit_wait.specs.declared.wait_calls.BitEnd.{BitEnd}
use Rattle.wait_rule.specs.{Known.Known, TallyLaws.tally_in}
use Rattle.copy_plan.specs.{declared.TheConstants.COUNTED_PAGE, declared.TheConstants.LONGEST}
use Rattle.copy_plan.specs.{declared.stop.ReaderEnd.ReaderEnd, declared.stop.Stop.Stop}
use Rattle.copy_plan.specs.declared.stop.WorkerEnd.{WorkerEnd}
use Rattle.copy_plan.specs.declared.stop.Stop.TheVariants as stop
use Rattle.flow_merge.specs.Merged.{Drawn, SinkFilled, HoldsMerged, IsMergeStop, Merged, MergesAll, NoneHurt, ends_of}
use Rattle.waitq_alone.specs.{Drill.number_line, declared.fault.Fault.Fault}
use Rattle.waitq_alone.specs.declared.fault.Fault.TheVariants as fault
use Rattle.waitq_copy.specs.Copying.{Concludes, HasFile, IsOpenFault, IsStartFault, IsFileStored, NotBegun, Outside}
use Rattle.waitq_copy.specs.Copying.{RunCauses, fault_after}

-- Why a merge did not begin: its first source was not opened; or that was, and the second was not, or no sink made.
pub record IsMergeStartFault (files : Option Files) (reads_old reads_new writes_old writes_new : ℕ)
    (first second : List ℕ) (why : Fault) : Type 0 where
  pub cause : IsOpenFault files reads_old reads_new first why
      ⊎ (HasFile files first × IsStartFault files reads_old reads_new writes_old writes_new second why)

-- what is told of a merge: the bytes that were read of both sources, and those that were counted
abbrev pub merge_text : ℕ → ℕ → List ℕ
merge_text read moved =
    codes "merged " ++ decimal read ++ codes " bytes\n" ++ number_line (codes "moved ") moved

-- The cause of each answer of a merge that ran.
pub record MergeCauses (task : Known) (old new : Outside) (left right : ReaderEnd) (how : Stop) (moved : ℕ)
    (answer : Result (Unit {0}) Fault) : Type 0 where
  pub run : RunCauses task old new how answer
  pub long : answer ≡ Err fault.Long → (LONGEST < left.read) ⊎ (LONGEST < right.read)
  pub short : answer ≡ Ok tt → (left.read ≤ LONGEST) × (right.read ≤ LONGEST)
  pub counted : answer ≡ Ok tt → moved ≡ 3 * (left.read + right.read)

-- The five tasks of a merge did their work over two sources that were opened and a sink that was made; then both sources
-- were closed, and the sink was stored.
pub record MergeThrough (domain : TableId) (task : Known) (files_old files_new : Option Files)
    (reads_old reads_new writes_old writes_new : ℕ) (first second dst : List ℕ) (left right : ReaderEnd) (how : Stop)
    (moved : ℕ) (stored : Result (Unit {0}) SinkFault) : Type 0 where
  pub one : Drawn
  pub two : Drawn
  pub into : SinkFilled
  pub merger : WorkerEnd
  pub writer : WorkerEnd
  pub total : Result ℕ BitEnd
  pub found_first : HasBytes files_old first one.left_old
  pub found_second : HasBytes files_old second two.left_old
  pub empty : HoldsNothing files_old into.held_old
  pub fresh : (one.faults_old ≡ 0) × ((two.faults_old ≡ 0) × (into.faults_old ≡ 0))
  pub merged : Merged domain task one two into (ends_of left right merger writer) how total
  pub front : HoldsMerged one two into
  pub whole : how ≡ stop.Finished → MergesAll one two into (ends_of left right merger writer) moved
  pub size_first : how ≡ stop.Finished → IfSome one.left_old (λ bytes. left.read ≡ length bytes)
  pub size_second : how ≡ stop.Finished → IfSome two.left_old (λ bytes. right.read ≡ length bytes)
  pub tally : moved ≡ tally_in COUNTED_PAGE task.view % 2 ^ 64
  pub stops : IsMergeStop how
  pub unhurt : NoneHurt (ends_of left right merger writer)
  pub stores : IsFileStored stored files_old files_new dst into.held_new
  pub reads : (0 < one.faults_new) ⊎ (0 < two.faults_new) → HasRisen reads_old reads_new
  pub writes : 0 < into.faults_new → HasRisen writes_old writes_new
  pub refused : stored ≡ Err sink.Failed → HasRisen writes_old writes_new

-- It ran, and its text was written, or its fault answered.
pub record MergeRan (domain : TableId) (task : Known) (old new : Outside) (first second dst : List ℕ)
    (answer : Result (Unit {0}) Fault) : Type 0 where
  pub left : ReaderEnd
  pub right : ReaderEnd
  pub how : Stop
  pub moved : ℕ
  pub stored : Result (Unit {0}) SinkFault
  pub through : MergeThrough domain task old.files new.files old.reads new.reads old.writes new.writes first second dst
      left right how moved stored
  pub told : Concludes (fault_after how stored) (merge_text (left.read + right.read) moved) old.held new.held old.faults
      new.faults answer
  pub causes : MergeCauses task old new left right how moved answer

-- What a merge command leaves.
abbrev pub MergeLeft : TableId → Known → Known → Outside → Outside → List ℕ → List ℕ → List ℕ
    → Result (Unit {0}) Fault → Type 0
MergeLeft domain task_old task_new old new first second dst answer =
    NotBegun task_old task_new old new
    (IsMergeStartFault old.files old.reads new.reads old.writes new.writes first second) answer
    ⊎ MergeRan domain task_new old new first second dst answer
