-- For tests alone.
-- What contracts see of the folder in memory.
use Rattle.std.specs.Prelude.{◌∷◌, ℕ, List, [], cond, Option, Some, None, option_map, bytes_eq, suc}
use Rattle.edge_io.specs.Folders.{Files}
use Rattle.mem_io.specs.Fails.{Calls}

-- a file of a folder in memory: its name, its bytes, and which reads of it fail
pub record FileState : Type 0 where
  pub name : List ℕ
  pub bytes : List ℕ
  pub fails : List ℕ

-- a folder in memory: its files, which writes of its new sinks fail, its calls of `open`, `create` and `store`, its two
-- counts of faults, and how many sources of it are open
pub record FolderState : Type 0 where
  pub files : List FileState
  pub fails : List ℕ
  pub calls : Calls
  pub read_faults : ℕ
  pub write_faults : ℕ
  pub opened : ℕ

-- the file of this name
abbrev pub file_at : List FileState → List ℕ → Option FileState
file_at [] name = None
file_at (file ∷ files) name = cond (bytes_eq file.name name) (Some file) (file_at files name)

-- its bytes
abbrev pub bytes_at : List FileState → Files
bytes_at files name = option_map (λ file. file.bytes) (file_at files name)

-- the place of the first file of this name, or the number of files
abbrev pub place_of : List FileState → List ℕ → ℕ
place_of [] name = 0
place_of (file ∷ files) name = cond (bytes_eq file.name name) 0 (suc (place_of files name))

-- the files with this one among them, in the place of the one that had its name, or else behind them
abbrev pub put : List FileState → FileState → List FileState
put [] file = file ∷ []
put (other ∷ files) file = cond (bytes_eq other.name file.name) (file ∷ files) (other ∷ put files file)
