-- To be believed.
-- What a whole merge did.
use Rattle.std.specs.Prelude.{ℕ, ◌≡◌, ◌+◌, ◌*◌, ◌%◌, ◌^◌, ◌++◌, Option, Result, List, [], ◌∷◌, IfSome}
use Rattle.std.specs.Io.KnownBytes.{append_known, prepend_known}
use Rattle.atomic_table.specs.Seated.{TableId}
use Rattle.bit_wait.specs.declared.wait_calls.BitEnd.{BitEnd}
use Rattle.wait_rule.specs.{declared.journal.Journal.Journal, Journals.has_of, Known.Known, Says.IsShown, Says.newcomer}
use Rattle.edge_io.specs.Text.{HoldsPrefix}
use Rattle.copy_plan.specs.{declared.stop.ReaderEnd.ReaderEnd, declared.stop.Stop.Stop}
use Rattle.copy_plan.specs.{declared.stop.WorkerEnd.WorkerEnd, Kinds.copy_stop}
use Rattle.copy_plan.specs.declared.stop.Stop.TheVariants as stop
use Rattle.copy_ends.specs.Copied.{ControlEnds, Controlled, NotesAreLate, control_stop}
use Rattle.copy_ends.specs.Did.{ReaderDid, WriterDid}
use Rattle.flow_copy.specs.Workers.{ControllerGoes, FromSource, ReaderGoes, WriterGoes}
use Rattle.flow_merge.specs.{declared.sides.Side.Side, Mergers.MergerDid, MergerWords.MergerGoes}
use Rattle.flow_merge.specs.declared.TheConstants.{LEFT_PIPE, MERGED_PIPE, RIGHT_PIPE}
use Rattle.flow_merge.specs.Passed.{Passed, Piece, merged_bytes, bytes_of, read_of, sent_of}
use Rattle.flow_merge.specs.declared.sides.Side.TheVariants as sides

-- the readers send no signals, so nobody's number is planned
abbrev pub no_targets : List ℕ
no_targets = 0 ∷ 0 ∷ 0 ∷ []

-- a source: what it had left before and after, and its counts of faults
pub record Drawn : Type 0 where
  pub left_old : Option (List ℕ)
  pub left_new : Option (List ℕ)
  pub faults_old : ℕ
  pub faults_new : ℕ

abbrev pub drawn : Option (List ℕ) → Option (List ℕ) → ℕ → ℕ → Drawn
drawn l0 l1 f0 f1 = record { left_old = l0; left_new = l1; faults_old = f0; faults_new = f1 }

-- a sink: what it held before and after, and its counts of faults and of wants
pub record SinkFilled : Type 0 where
  pub held_old : Option (List ℕ)
  pub held_new : Option (List ℕ)
  pub faults_old : ℕ
  pub faults_new : ℕ
  pub wants_old : ℕ
  pub wants_new : ℕ

abbrev pub filled : Option (List ℕ) → Option (List ℕ) → ℕ → ℕ → ℕ → ℕ → SinkFilled
filled h0 h1 f0 f1 w0 w1 = record {
  held_old = h0;
  held_new = h1;
  faults_old = f0;
  faults_new = f1;
  wants_old = w0;
  wants_new = w1;
}

-- how its workers ended
pub record CrewEnds : Type 0 where
  pub left : ReaderEnd
  pub right : ReaderEnd
  pub merger : WorkerEnd
  pub writer : WorkerEnd

abbrev pub ends_of : ReaderEnd → ReaderEnd → WorkerEnd → WorkerEnd → CrewEnds
ends_of l r m w = record { left = l; right = r; merger = m; writer = w }

-- the last that each of its five tasks knew
pub record Five : Type 0 where
  pub left : Known
  pub right : Known
  pub merger : Known
  pub writer : Known
  pub controller : Known

-- their lists, under their numbers
pub record HasFive (v : Journal) (k : Five) : Type 0 where
  pub left : has_of 1 v ≡ k.left.view.items
  pub right : has_of 2 v ≡ k.right.view.items
  pub merger : has_of 3 v ≡ k.merger.view.items
  pub writer : has_of 4 v ≡ k.writer.view.items
  pub controller : has_of 5 v ≡ k.controller.view.items

-- what each of them did
pub record FiveDid (domain : TableId) (k : Five) (first second : Drawn) (into : SinkFilled) (ends : CrewEnds)
    (total : Result ℕ BitEnd) : Type 0 where
  pub left : ReaderDid LEFT_PIPE (newcomer domain 1 2 0) k.left first.left_old first.left_new first.faults_old
      first.faults_new no_targets [] ends.left
  pub right : ReaderDid RIGHT_PIPE (newcomer domain 2 3 0) k.right second.left_old second.left_new second.faults_old
      second.faults_new no_targets [] ends.right
  pub merger : MergerDid (newcomer domain 3 4 0) k.merger ends.merger
  pub writer : WriterDid MERGED_PIPE (newcomer domain 4 5 0) k.writer into.held_old into.held_new into.faults_old
      into.faults_new into.wants_old into.wants_new [] [] ends.writer
  pub controls : Controlled (newcomer domain 5 6 0) k.controller
  pub counts : ControlEnds 4 (newcomer domain 5 6 0) k.controller total

-- a head that had no place left had at least 2^37 entries queued there
pub record NotesLate (new : Known) : Type 0 where
  pub shown : Journal
  pub law : IsShown shown
  pub left : NotesAreLate shown law 1 new
  pub right : NotesAreLate shown law 2 new
  pub merger : NotesAreLate shown law 3 new
  pub writer : NotesAreLate shown law 4 new
  pub controller : NotesAreLate shown law 5 new

abbrev pub stops_of : CrewEnds → Result ℕ BitEnd → List Stop
stops_of e total = e.left.stop ∷ e.right.stop ∷ e.merger.stop ∷ e.writer.stop ∷ control_stop total ∷ []

-- The five tasks of a merge did their work, and their lists stand in the journal of the task that joined them.
pub record Merged (domain : TableId) (new : Known) (first second : Drawn) (into : SinkFilled) (ends : CrewEnds) (how : Stop)
    (total : Result ℕ BitEnd) : Type 0 where
  pub five : Five
  pub did : FiveDid domain five first second into ends total
  pub lists : HasFive new.view five
  pub stops : how ≡ copy_stop (stops_of ends total) 0
  pub late : NotesLate new

-- They went by their programs, from their first steps to their last.
pub record FollowsMerge (domain : TableId) (new : Known) (first second : Drawn) (ends : CrewEnds) (total : Result ℕ BitEnd)
    : Type 0 where
  pub five : Five
  pub left : FromSource first.left_old first.left_new 0 ends.left.read
      (λ bytes. ReaderGoes LEFT_PIPE no_targets [] (newcomer domain 1 2 0) five.left bytes ends.left.stop)
  pub right : FromSource second.left_old second.left_new 0 ends.right.read
      (λ bytes. ReaderGoes RIGHT_PIPE no_targets [] (newcomer domain 2 3 0) five.right bytes ends.right.stop)
  pub merger : MergerGoes (newcomer domain 3 4 0) five.merger ends.merger.stop
  pub writer : WriterGoes MERGED_PIPE (newcomer domain 4 5 0) five.writer ends.writer.stop
  pub controller : ControllerGoes 4 (newcomer domain 5 6 0) five.controller total
  pub lists : HasFive new.view five

-- some bytes are a front of others
pub record IsFront (bytes all : List ℕ) : Type 0 where
  pub rest : List ℕ
  pub whole : all ≡ bytes ++ rest

-- What was read of a side is a front of what its source gave.
pub record ReadsFront (d : Drawn) (s : Side) (passed : Passed) : Type 0 where
  pub given : List ℕ
  pub left : d.left_old ≡ prepend_known given d.left_new
  pub front : IsFront (read_of s passed) given

-- With every stop: the sink holds a front of what the merger sent, which is the pieces that it passed on, in order, and
-- then a front of one more; and the pieces of each side, in order, are a front of what its source gave.
pub record HoldsMerged (first second : Drawn) (into : SinkFilled) : Type 0 where
  pub passed : Passed
  pub left : ReadsFront first sides.Left passed
  pub right : ReadsFront second sides.Right passed
  pub held : HoldsPrefix into.held_old into.held_new (sent_of passed)

pub record MergeFinished (ends : CrewEnds) : Type 0 where
  pub left : ends.left.stop ≡ stop.Finished
  pub right : ends.right.stop ≡ stop.Finished
  pub merger : ends.merger.stop ≡ stop.Finished
  pub writer : ends.writer.stop ≡ stop.Finished

-- Where the merge finished, so did all workers: the pieces of the left side, in order, are the bytes of the first
-- source, those of the right one the second's, and the sink holds all of them in order; and each byte was counted three
-- times.
pub record MergesAll (first second : Drawn) (into : SinkFilled) (ends : CrewEnds) (tally : ℕ) : Type 0 where
  pub all : MergeFinished ends
  pub pieces : List Piece
  pub left : IfSome first.left_old (λ bytes. bytes ≡ bytes_of sides.Left pieces)
  pub right : IfSome second.left_old (λ bytes. bytes ≡ bytes_of sides.Right pieces)
  pub held : into.held_new ≡ append_known into.held_old (merged_bytes pieces)
  pub moved : tally ≡ 3 * (ends.left.read + ends.right.read) % 2 ^ 64

-- a merge that ran stopped so
abbrev pub IsMergeStop : Stop → Type 0
IsMergeStop stop.Broken = ⊥
IsMergeStop stop.Killed = ⊥
IsMergeStop stop.Taken = ⊥
IsMergeStop _ = Unit {0}

-- no worker wanted an end that was somebody else's, or took a fatal signal
abbrev pub IsUnhurt : Stop → Type 0
IsUnhurt stop.Killed = ⊥
IsUnhurt stop.Taken = ⊥
IsUnhurt _ = Unit {0}

pub record NoneHurt (ends : CrewEnds) : Type 0 where
  pub left : IsUnhurt ends.left.stop
  pub right : IsUnhurt ends.right.stop
  pub merger : IsUnhurt ends.merger.stop
  pub writer : IsUnhurt ends.writer.stop
