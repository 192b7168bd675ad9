-- Laws of the files of a folder in memory. Only proofs use them.
use Rattle.std.proofs.Common.{◌≡◌, ℕ, ◌<◌, ◌≤◌, suc, arith, List, [], ◌∷◌, ◌++◌, length, get_or, Some, None, Bool, true}
use Rattle.std.proofs.Common.{false, cond, refl, ap, option_map, bytes_eq}
use Rattle.std.proofs.Math.ListN.{set}
use Rattle.std.proofs.lemmas.Slice.Eq.{bytes_eq-Decides}
use Rattle.edge_io.specs.Folders.{StoresBytes}
use Rattle.mem_io.specs.MemFolders.{FileState, file_at, bytes_at, place_of, put}

-- the file at its place, as far as one step of the search tells
found_by : (b : Bool) (f : FileState) (fs : List FileState) (name : List ℕ) (p : ℕ) (d : FileState)
    → cond b 0 (suc p) < length (f ∷ fs) → (p < length fs → file_at fs name ≡ Some (get_or fs p d))
    → cond b (Some f) (file_at fs name) ≡ Some (get_or (f ∷ fs) (cond b 0 (suc p)) d)
found_by true f fs name p d below rest = refl
found_by false f fs name p d below rest = rest (omega (arith, below))

pub found : (files : List FileState) (name : List ℕ) (d : FileState) → place_of files name < length files
    → file_at files name ≡ Some (get_or files (place_of files name) d)
found [] name d below = absurd (omega (arith, below))
found (f ∷ fs) name d below =
    found_by (bytes_eq f.name name) f fs name (place_of fs name) d below (found fs name d)

missing_by : (b : Bool) (f : FileState) (fs : List FileState) (name : List ℕ) (p : ℕ)
    → length (f ∷ fs) ≤ cond b 0 (suc p) → (length fs ≤ p → file_at fs name ≡ None)
    → cond b (Some f) (file_at fs name) ≡ None
missing_by true f fs name p above rest = absurd (omega (arith, above))
missing_by false f fs name p above rest = rest (omega (arith, above))

pub missing : (files : List FileState) (name : List ℕ) → length files ≤ place_of files name
    → file_at files name ≡ None
missing [] name above = refl
missing (f ∷ fs) name above =
    missing_by (bytes_eq f.name name) f fs name (place_of fs name) above (missing fs name)

put_found_by : (b : Bool) (f : FileState) (fs : List FileState) (file : FileState) (p : ℕ)
    → cond b 0 (suc p) < length (f ∷ fs) → (p < length fs → set fs p file ≡ put fs file)
    → set (f ∷ fs) (cond b 0 (suc p)) file ≡ cond b (file ∷ fs) (f ∷ put fs file)
put_found_by true f fs file p below rest = refl
put_found_by false f fs file p below rest = ap (λ xs. f ∷ xs) (rest (omega (arith, below)))

-- a file whose name was found takes the place of that one
pub put_found : (files : List FileState) (file : FileState) → place_of files file.name < length files
    → set files (place_of files file.name) file ≡ put files file
put_found [] file below = absurd (omega (arith, below))
put_found (f ∷ fs) file below =
    put_found_by (bytes_eq f.name file.name) f fs file (place_of fs file.name) below (put_found fs file)

put_new_by : (b : Bool) (f : FileState) (fs : List FileState) (file : FileState) (p : ℕ)
    → length (f ∷ fs) ≤ cond b 0 (suc p) → (length fs ≤ p → fs ++ file ∷ [] ≡ put fs file)
    → f ∷ fs ++ file ∷ [] ≡ cond b (file ∷ fs) (f ∷ put fs file)
put_new_by true f fs file p above rest = absurd (omega (arith, above))
put_new_by false f fs file p above rest = ap (λ xs. f ∷ xs) (rest (omega (arith, above)))

-- a file whose name was not found stands behind all others
pub put_new : (files : List FileState) (file : FileState) → length files ≤ place_of files file.name
    → files ++ file ∷ [] ≡ put files file
put_new [] file above = refl
put_new (f ∷ fs) file above =
    put_new_by (bytes_eq f.name file.name) f fs file (place_of fs file.name) above (put_new fs file)

pub same_bytes : (xs : List ℕ) → bytes_eq xs xs ≡ true
same_bytes xs = (bytes_eq-Decides xs xs).1 refl

here_by : (b : Bool) (f : FileState) (fs : List FileState) (file : FileState) → bytes_eq f.name file.name ≡ b
    → file_at (put fs file) file.name ≡ Some file
    → file_at (cond b (file ∷ fs) (f ∷ put fs file)) file.name ≡ Some file
here_by true f fs file is rest = rw (same_bytes file.name) refl
here_by false f fs file is rest = rw is rest

pub here : (files : List FileState) (file : FileState) → file_at (put files file) file.name ≡ Some file
here [] file = rw (same_bytes file.name) refl
here (f ∷ fs) file = here_by (bytes_eq f.name file.name) f fs file refl (here fs file)

others_by : (b : Bool) (f : FileState) (fs : List FileState) (file : FileState) (other : List ℕ)
    → bytes_eq f.name file.name ≡ b → bytes_eq file.name other ≡ false
    → file_at (put fs file) other ≡ file_at fs other
    → file_at (cond b (file ∷ fs) (f ∷ put fs file)) other ≡ file_at (f ∷ fs) other
others_by true f fs file other is apart rest =
    rw (apart, (bytes_eq-Decides f.name file.name).0 is) rw apart refl
others_by false f fs file other is apart rest =
    ap (cond (bytes_eq f.name other) (Some f)) rest

pub others : (files : List FileState) (file : FileState) (other : List ℕ) → bytes_eq file.name other ≡ false
    → file_at (put files file) other ≡ file_at files other
others [] file other apart = rw apart refl
others (f ∷ fs) file other apart =
    others_by (bytes_eq f.name file.name) f fs file other refl apart (others fs file other apart)

-- what a folder in memory says of a file that it has stored
pub stores : (files : List FileState) (file : FileState)
    → StoresBytes (bytes_at files) (bytes_at (put files file)) file.name (Some file.bytes)
stores files file = record {
  bytes = ap (option_map (λ f. f.bytes)) (here files file);
  others = λ other apart. ap (option_map (λ f. f.bytes)) (others files file other apart);
}
