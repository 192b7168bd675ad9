-- Laws of the first element that passes a test. Only proofs use them.
use Rattle.std.proofs.Common.{◌≡◌, ℕ, ◌<◌, ◌≤◌, List, length, get_or, Bool, Some, None, ap, sym, ◌∙◌, option_map}
use Rattle.std.specs.List.{find, position_or_len, slice_get}
use Rattle.std.proofs.lemmas.List.Folds.{find_at}
use Rattle.std.proofs.lemmas.Option.{slice_get_read, slice_get_past}

pub found_there : {X Y : Type 0} (p : X → Bool) (f : X → Y) (xs : List X) (n i : ℕ) (x : X)
    → i ≡ position_or_len p xs → n ≡ length xs → i < n → x ≡ get_or xs i x
    → Some (f x) ≡ option_map f (find p xs)
found_there p f xs n i x at len below value =
    ap (option_map f) (sym (find_at p xs ∙ ap (slice_get xs) (sym at) ∙ slice_get_read xs n i x len below value))

pub found_nowhere : {X Y : Type 0} (p : X → Bool) (f : X → Y) (xs : List X) (i : ℕ)
    → i ≡ position_or_len p xs → length xs ≤ i → None ≡ option_map f (find p xs)
found_nowhere p f xs i at above =
    ap (option_map f) (sym (find_at p xs ∙ ap (slice_get xs) (sym at) ∙ slice_get_past xs i above))
