-- To be believed.
-- What a merge command does, and what becomes of the files.
use Rattle.std.specs.Prelude.{◌≡◌, ℕ, List, Option, Some, None, Result}
use Rattle.atomic_table.specs.Seated.{TableId}
use Rattle.edge_io.specs.Folders.{Files}
use Rattle.wait_rule.specs.Known.{Known}
use Rattle.flow_merge.specs.Passed.{Piece, merged_bytes, bytes_of}
use Rattle.flow_merge.specs.declared.sides.Side.TheVariants as sides
use Rattle.waitq_alone.specs.{Alone.Reports, Alone.exit_status, declared.fault.Fault.Fault}
use Rattle.waitq_alone.specs.Commands.{Request, Replay, Drill, Copy, Merge}
use Rattle.waitq_copy.specs.{Copying.Outside, Run.IsFrontOf, Run.SparesBut}
use Rattle.waitq_merge.specs.Merging.{MergeLeft}

-- What a merge command does: its status is that of an answer, by which it leaves what it leaves, and err got the
-- answer's line.
pub record MergeEnds (domain : TableId) (task_old task_new : Known) (old new : Outside) (first second dst : List ℕ)
    (err_old err_new : Option (List ℕ)) (err_stayed : Type 0) (status : ℕ) : Type 0 where
  pub answer : Result (Unit {0}) Fault
  pub number : status ≡ exit_status answer
  pub left : MergeLeft domain task_old task_new old new first second dst answer
  pub line : Reports err_old err_new err_stayed answer

-- where words ask for a merge
abbrev pub IfMerge : Option Request → (List ℕ → List ℕ → List ℕ → Type 0) → Type 0
IfMerge (Some (Merge first second dst)) p = p first second dst
IfMerge (Some (Copy src dst plan)) p = Unit {0}
IfMerge (Some Replay) p = Unit {0}
IfMerge (Some (Drill seed count)) p = Unit {0}
IfMerge None p = Unit {0}

-- Where the files are told, the file of the third name is pieces of the two others, one behind another: those of each
-- are, in their order, just the bytes that it had.
abbrev pub DeliversBoth : List ℕ → List ℕ → List ℕ → Option Files → Option Files → Type 0
DeliversBoth first second dst (Some old) new =
    (files : Files) × (pieces : List Piece) × (new ≡ Some files) × (old first ≡ Some (bytes_of sides.Left pieces))
    × (old second ≡ Some (bytes_of sides.Right pieces)) × (files dst ≡ Some (merged_bytes pieces))
DeliversBoth first second dst None new = Unit {0}

-- The bytes of a file are a front of pieces, one behind another, of which those of each side are, in their order, a front
-- of a file.
pub record IsFrontOfBoth (bytes first second : Option (List ℕ)) : Type 0 where
  pub pieces : List Piece
  pub front : IsFrontOf bytes (Some (merged_bytes pieces))
  pub left : IsFrontOf (Some (bytes_of sides.Left pieces)) first
  pub right : IsFrontOf (Some (bytes_of sides.Right pieces)) second

-- Every file but the one of the third name is as it was. That one is as it was too, or it has a front of pieces of fronts
-- of the two others.
abbrev pub MergeSpares : List ℕ → List ℕ → List ℕ → Option Files → Option Files → Type 0
MergeSpares first second dst old new =
    SparesBut dst (λ files bytes. IsFrontOfBoth bytes (files first) (files second)) old new
