-- Where bytes are cut into lines.
use Rattle.std.proofs.Common.{◌≡◌, ℕ, ◌+◌, ◌-◌, ◌<◌, Bool, true, false, cond, not, List, [], ◌∷◌, Some, None, Err}
use Rattle.std.proofs.Common.{length, take, drop, refl, ap, sym, ◌∙◌, arith, nat_lt, position, Ok}
use Rattle.std.proofs.lemmas.Bool.Decides.{nat_tests}
use Rattle.std.proofs.lemmas.List.Splits.{slice_split_first, length-slice_split}
use Rattle.std.specs.List.{onto_first, position_or_len}
use Rattle.wait_script.specs.{declared.reason.Reason.Reason, declared.version.Version.Version, Lines.header_at}
use Rattle.wait_script.specs.Lines.{line_at}
use Rattle.wait_script.specs.Script.{is_end, parts_of, lines_from, and_lines, versioned, under, headed, script_of}
use Rattle.wait_script.proofs.{LineCuts.rest_from, Truths.some_by, Truths.none_by}

pub parts-at : (bytes : List ℕ) (n : ℕ) → position is_end bytes ≡ Some n
    → parts_of bytes ≡ take n bytes ∷ parts_of (take (length bytes - (n + 1)) (drop (n + 1) bytes))
parts-at bytes n e =
    let at = some_by (nat_lt (position_or_len is_end bytes) (length bytes)) (position_or_len is_end bytes) n e
    in
    let lt : position_or_len is_end bytes < length bytes = grind (arith, nat_tests, at.0) in
    slice_split_first is_end bytes 0 lt ∙ ap (λ k. take k bytes ∷ parts_of (drop (k + 1) bytes)) at.1
    ∙ ap (λ r. take n bytes ∷ parts_of r) (sym (rest_from bytes (n + 1)))

not_empty : (x : ℕ) (xs : List ℕ) → nat_lt 0 (length (x ∷ xs)) ≡ false → ⊥
not_empty x xs e = grind (arith, nat_tests)

one : (b : Bool) (x : ℕ) (xs : List ℕ) (parts : List (List ℕ)) (n : ℕ)
    → nat_lt (cond (not b) (1 + n) 0) (length (x ∷ xs)) ≡ false
    → (nat_lt n (length xs) ≡ false → parts ≡ xs ∷ [])
    → cond b ([] ∷ parts) (onto_first x parts) ≡ (x ∷ xs) ∷ []
one true x xs parts n e h = absurd (not_empty x xs e)
one false x xs parts n e h = ap (onto_first x) (h (grind (arith, nat_tests)))

whole : (bytes : List ℕ) → nat_lt (position_or_len is_end bytes) (length bytes) ≡ false
    → parts_of bytes ≡ bytes ∷ []
whole [] e = refl
whole (x ∷ xs) e = one (is_end x) x xs (parts_of xs) (position_or_len is_end xs) e (whole xs)

pub parts-none : (bytes : List ℕ) → position is_end bytes ≡ None → parts_of bytes ≡ bytes ∷ []
parts-none bytes e = whole bytes (none_by _ (position_or_len is_end bytes) e)

some_parts : (bytes : List ℕ) → 0 < length (parts_of bytes)
some_parts bytes = omega (arith, length-slice_split is_end bytes)

step : (v : Version) (number : ℕ) (line : List ℕ) (parts : List (List ℕ)) → 0 < length parts
    → lines_from v number (line ∷ parts) ≡ and_lines number (line_at v line) (lines_from v (number + 1) parts)
step v number line [] some = absurd (omega arith)
step v number line (part ∷ more) some = refl

pub lines_from-step : (v : Version) (number : ℕ) (line rest : List ℕ)
    → lines_from v number (line ∷ parts_of rest) ≡ and_lines number (line_at v line)
    (lines_from v (number + 1) (parts_of rest))
lines_from-step v number line rest = step v number line (parts_of rest) (some_parts rest)

head_step : (header : List ℕ) (parts : List (List ℕ)) → 0 < length parts
    → headed (header ∷ parts) ≡ under (header_at header) parts
head_step header [] some = absurd (omega arith)
head_step header (part ∷ more) some = refl

-- what stands after line 1, under what line 1 says
pub after_header : (bytes header rest : List ℕ) → parts_of bytes ≡ header ∷ parts_of rest
    → script_of bytes ≡ under (header_at header) (parts_of rest)
after_header bytes header rest cut = ap headed cut ∙ head_step header (parts_of rest) (some_parts rest)

pub odd_header : (bytes header rest : List ℕ) (why : Reason) → parts_of bytes ≡ header ∷ parts_of rest
    → header_at header ≡ Err why → script_of bytes ≡ Err (1, why)
odd_header bytes header rest why cut e = after_header bytes header rest cut ∙ ap (λ h. under h (parts_of rest)) e

pub good_header : (bytes header rest : List ℕ) (v : Version) → parts_of bytes ≡ header ∷ parts_of rest
    → header_at header ≡ Ok v → script_of bytes ≡ versioned v (lines_from v 2 (parts_of rest))
good_header bytes header rest v cut e = after_header bytes header rest cut ∙ ap (λ h. under h (parts_of rest)) e
