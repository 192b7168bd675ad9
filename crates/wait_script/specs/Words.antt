-- To be believed.
-- The words of a line, and what several fields say together.
use Rattle.std.specs.Prelude.{ℕ, List, Result, Ok, Err, ◌==◌}
use Rattle.std.specs.List.{slice_split}
use Rattle.wait_script.specs.{declared.reason.Reason.Reason, Reasons.first_reason}

-- what stands between single spaces
abbrev pub words_of : List ℕ → List (List ℕ)
words_of line = slice_split (λ b. b == 32) line

-- two fields, or the first of the reasons
abbrev pub both_of : {A B : Type 0} → Result A Reason → Result B Reason → Result (A × B) Reason
both_of (Ok a) (Ok b) = Ok (a, b)
both_of (Ok a) (Err v) = Err v
both_of (Err u) (Ok b) = Err u
both_of (Err u) (Err v) = Err (first_reason u v)

-- what fields that are right make
abbrev pub made_of : {A B : Type 0} → (A → B) → Result A Reason → Result B Reason
made_of f (Ok a) = Ok (f a)
made_of f (Err why) = Err why
