-- To be believed.
-- What is known of the bytes that a sink holds, after a text was written to it.
use Rattle.std.specs.Prelude.{◌≡◌, List, ◌++◌, ℕ, Result, Option, MatchResult}
use Rattle.std.specs.Io.KnownBytes.{append_known}

-- the known bytes, and then a front of the text
pub record HoldsPrefix (old new : Option (List ℕ)) (text : List ℕ) : Type 0 where
  pub front : List ℕ
  pub rest : List ℕ
  pub whole : text ≡ front ++ rest
  pub held : new ≡ append_known old front

-- A front of the text was written, and rest is left of it.
pub record Midway (old now : Option (List ℕ)) (rest text : List ℕ) : Type 0 where
  pub front : List ℕ
  pub whole : text ≡ front ++ rest
  pub held : now ≡ append_known old front

-- the whole text at `Ok`, a front of it at `Err`
abbrev pub WritesText : {T E : Type 0} → Option (List ℕ) → Option (List ℕ) → List ℕ → Result T E → Type 0
WritesText old new text r = MatchResult r (λ _. new ≡ append_known old text) (λ _. HoldsPrefix old new text)

-- What `before` had in a buffer and then the text, on their way to a sink: at `Ok` the sink got a front of
-- both and the buffer has all the rest, in `after`; at `Err` the sink got a front of both.
abbrev pub BuffersText : {T E : Type 0} → Option (List ℕ) → List ℕ → Option (List ℕ) → List ℕ → List ℕ
    → Result T E → Type 0
BuffersText old before new after text r =
    MatchResult r (λ _. Midway old new after (before ++ text)) (λ _. HoldsPrefix old new (before ++ text))
