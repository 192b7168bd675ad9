-- To be believed.
-- What a copy command does, and what becomes of the files.
use Rattle.std.specs.Prelude.{◌≡◌, ℕ, ◌++◌, ◌⊎◌, List, Option, Some, None, Result, false, bytes_eq}
use Rattle.atomic_table.specs.Seated.{TableId}
use Rattle.edge_io.specs.Folders.{Files}
use Rattle.wait_rule.specs.Known.{Known}
use Rattle.func_head.specs.Walks.{EntryState}
use Rattle.copy_plan.specs.declared.plan.Planned.{Planned}
use Rattle.waitq_alone.specs.{Alone.Reports, Alone.exit_status, declared.fault.Fault.Fault}
use Rattle.waitq_alone.specs.Commands.{Request, Replay, Drill, Copy, Merge}
use Rattle.waitq_copy.specs.Copying.{CopyLeft, Outside}

-- What a copy command does: its status is that of an answer, by which it leaves what it leaves, and err got the
-- answer's line.
pub record CopyEnds (domain : TableId) (task_old task_new : Known) (old new : Outside) (src dst : List ℕ)
    (plan : List Planned) (watchers : List EntryState) (err_old err_new : Option (List ℕ)) (err_stayed : Type 0)
    (status : ℕ) : Type 0 where
  pub answer : Result (Unit {0}) Fault
  pub number : status ≡ exit_status answer
  pub left : CopyLeft domain task_old task_new old new src dst plan watchers answer
  pub line : Reports err_old err_new err_stayed answer

-- where words ask for a copy
abbrev pub IfCopy : Option Request → (List ℕ → List ℕ → List Planned → Type 0) → Type 0
IfCopy (Some (Copy src dst plan)) p = p src dst plan
IfCopy (Some Replay) p = Unit {0}
IfCopy (Some (Drill seed count)) p = Unit {0}
IfCopy (Some (Merge a b dst)) p = Unit {0}
IfCopy None p = Unit {0}

-- Where the files are told, the file of the second name has just the bytes that the file of the first name had.
abbrev pub DeliversFile : List ℕ → List ℕ → Option Files → Option Files → Type 0
DeliversFile src dst (Some old) new =
    (files : Files) × (bytes : List ℕ) × (new ≡ Some files) × (old src ≡ Some bytes) × (files dst ≡ Some bytes)
DeliversFile src dst None new = Unit {0}

-- the bytes of one file are a front of those of another
abbrev pub IsFrontOf : Option (List ℕ) → Option (List ℕ) → Type 0
IsFrontOf (Some bytes) (Some all) = (rest : List ℕ) × (all ≡ bytes ++ rest)
IsFrontOf (Some bytes) None = ⊥
IsFrontOf None all = ⊥

-- Every file but the one of this name is as it was. That one is as it was too, or it has what it may get.
pub record Spared (dst : List ℕ) (old new : Files) (MayGet : Option (List ℕ) → Type 0) : Type 0 where
  pub others : (other : List ℕ) → bytes_eq dst other ≡ false → new other ≡ old other
  pub front : (new dst ≡ old dst) ⊎ MayGet (new dst)

-- So it is where the files are told: what that file may get is said by the files as they were.
abbrev pub SparesBut : List ℕ → (Files → Option (List ℕ) → Type 0) → Option Files → Option Files → Type 0
SparesBut dst MayGet (Some old) new = (files : Files) × (new ≡ Some files) × Spared dst old files (MayGet old)
SparesBut dst MayGet None new = Unit {0}

-- The file of the second name may get a front of the bytes that the file of the first name had.
abbrev pub Spares : List ℕ → List ℕ → Option Files → Option Files → Type 0
Spares src dst old new = SparesBut dst (λ files bytes. IsFrontOf bytes (files src)) old new
