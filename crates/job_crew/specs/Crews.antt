-- To be believed.
-- What becomes of a job that waits for a word, and of one that may not be there.
use Rattle.std.specs.Prelude.{◌≡◌, Option, None, Some, Result, Ok, Err}

-- It was done, or it is handed back unchanged.
abbrev pub Comes : (J D : Type 0) → (J → D → Type 0) → J → Result D J → Type 0
Comes J D did job (Ok done) = did job done
Comes J D did job (Err back) = back ≡ job

-- The same of two.
abbrev pub Both : {J K D E : Type 0} → (J → D → Type 0) → (K → E → Type 0) → J × K → D × E → Type 0
Both did also jobs done = did jobs.0 done.0 × also jobs.1 done.1

-- It is done where it is there, and nothing is done where it is not.
abbrev pub DidSome : (J D : Type 0) → (J → D → Type 0) → Option J → Option D → Type 0
DidSome J D did None None = Unit {0}
DidSome J D did (Some job) (Some done) = did job done
DidSome J D did _ _ = ⊥
