-- To be believed.
-- What is known of the files of a folder: the definitions that the contracts of folders cite.
use Rattle.std.specs.Prelude.{◌≡◌, ℕ, List, [], false, Option, Some, None, IfSome, IsSome, bytes_eq, Result, Ok, Err}
use Rattle.edge_io.specs.{declared.folder.OpenFault.OpenFault, Faults.HasCounted}
use Rattle.edge_io.specs.declared.folder.OpenFault.TheVariants.{Failed, OutOfMemory, NoSuchFile}

-- The bytes of the file of each name, and None for a name that no file has.
abbrev pub Files : Type 0
Files = List ℕ → Option (List ℕ)

-- There is a file of this name, and these are its bytes, where the files are told.
abbrev pub HasBytes : Option Files → List ℕ → Option (List ℕ) → Type 0
HasBytes None name left = Unit {0}
HasBytes (Some files) name left = IsSome (files name) × (left ≡ files name)

-- No file has this name, where the files are told.
abbrev pub HasNone : Option Files → List ℕ → Type 0
HasNone told name = IfSome told (λ files. files name ≡ None)

-- A new sink of a folder holds no bytes, and tells them where the files are told.
abbrev pub HoldsNothing : Option Files → Option (List ℕ) → Type 0
HoldsNothing None held = IfSome held (λ bytes. bytes ≡ [])
HoldsNothing (Some files) held = held ≡ Some []

-- The file of this name has these bytes, where they are told, and every other one is as it was.
pub record StoresBytes (old new : Files) (name : List ℕ) (held : Option (List ℕ)) : Type 0 where
  pub bytes : IfSome held (λ xs. new name ≡ Some xs)
  pub others : (other : List ℕ) → bytes_eq name other ≡ false → new other ≡ old other

-- The same of a folder, which tells its files after it where it told them before.
abbrev pub Stores : Option Files → Option Files → List ℕ → Option (List ℕ) → Type 0
Stores None new name held = Unit {0}
Stores (Some old) new name held = (files : Files) × (new ≡ Some files) × StoresBytes old files name held

-- A folder's count of faults, of the kind that the call counts: one more where Failed is answered, and else as it was.
abbrev pub FaultIsCounted : ℕ → ℕ → OpenFault → Type 0
FaultIsCounted old new Failed = HasCounted old new
FaultIsCounted old new OutOfMemory = new ≡ old
FaultIsCounted old new NoSuchFile = new ≡ old

abbrev pub CountsOpening : {T : Type 0} → ℕ → ℕ → Result T OpenFault → Type 0
CountsOpening old new (Ok x) = new ≡ old
CountsOpening old new (Err fault) = FaultIsCounted old new fault
