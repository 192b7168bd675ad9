-- Laws of texts that go to a sink by a buffer. Only proofs use them.
use Rattle.std.proofs.Common.{◌≡◌, ℕ, List, [], ◌++◌, Option, Some, Result, Ok, Err, ap, sym, ◌∙◌, append_assoc}
use Rattle.std.proofs.lemmas.List.{append-nil}
use Rattle.std.specs.Io.KnownBytes.{append_known}
use Rattle.edge_io.specs.Text.{HoldsPrefix, Midway, WritesText, BuffersText}
use Rattle.edge_io.proofs.{Known.append_known-twice, Prefix.later}

-- room was made, and then a text was written into the buffer
pub buffered : {T E : Type 0} (r : Result T E) (old now : Option (List ℕ)) (before made after text : List ℕ)
    → Midway old now made before → WritesText (Some made) (Some after) text r
    → BuffersText old before now after text r
buffered (Ok x) old now before made after text m wrote =
    let same : after ≡ made ++ text = cc in
    record {
      front = m.front;
      whole = ap (λ xs. xs ++ text) m.whole ∙ append_assoc m.front made text
          ∙ ap (λ xs. m.front ++ xs) (sym same);
      held = m.held;
    }
buffered (Err e) old now before made after text m wrote = record {
  front = m.front;
  rest = made ++ text;
  whole = ap (λ xs. xs ++ text) m.whole ∙ append_assoc m.front made text;
  held = m.held;
}

-- no room could be made
pub roomless : (old now : Option (List ℕ)) (before made text : List ℕ) → Midway old now made before
    → HoldsPrefix old now (before ++ text)
roomless old now before made text m = record {
  front = m.front;
  rest = made ++ text;
  whole = ap (λ xs. xs ++ text) m.whole ∙ append_assoc m.front made text;
  held = m.held;
}

-- of what is in the buffer and what is still to come, the next piece was written
pub goes_on : (old now new : Option (List ℕ)) (buffer after piece rest left text : List ℕ)
    → Midway old now (buffer ++ left) text → left ≡ piece ++ rest → Midway now new after (buffer ++ piece)
    → Midway old new (after ++ rest) text
goes_on old now new buffer after piece rest left text m e sent = record {
  front = m.front ++ sent.front;
  whole = m.whole ∙ ap (λ xs. m.front ++ (buffer ++ xs)) e
      ∙ ap (λ xs. m.front ++ xs) (sym (append_assoc buffer piece rest) ∙ ap (λ xs. xs ++ rest) sent.whole
      ∙ append_assoc sent.front after rest)
      ∙ sym (append_assoc m.front sent.front (after ++ rest));
  held = sent.held ∙ ap (λ o. append_known o sent.front) m.held ∙ append_known-twice old m.front sent.front;
}

-- the next piece was broken off
pub breaks_off : (old now new : Option (List ℕ)) (buffer piece rest left text : List ℕ)
    → Midway old now (buffer ++ left) text → left ≡ piece ++ rest → HoldsPrefix now new (buffer ++ piece)
    → HoldsPrefix old new text
breaks_off old now new buffer piece rest left text m e sent = record {
  front = m.front ++ sent.front;
  rest = sent.rest ++ rest;
  whole = m.whole ∙ ap (λ xs. m.front ++ (buffer ++ xs)) e
      ∙ ap (λ xs. m.front ++ xs) (sym (append_assoc buffer piece rest) ∙ ap (λ xs. xs ++ rest) sent.whole
      ∙ append_assoc sent.front sent.rest rest)
      ∙ sym (append_assoc m.front sent.front (sent.rest ++ rest));
  held = sent.held ∙ ap (λ o. append_known o sent.front) m.held ∙ append_known-twice old m.front sent.front;
}

-- the buffer was emptied into the sink
pub emptied : (old now new : Option (List ℕ)) (buffer after left text : List ℕ)
    → Midway old now (buffer ++ left) text
    → Midway now new after buffer → after ≡ [] → Midway old new left text
emptied old now new buffer after left text m sent empty =
    let all : buffer ≡ sent.front = sent.whole ∙ ap (λ xs. sent.front ++ xs) empty
    ∙ append-nil sent.front in
    record {
      front = m.front ++ sent.front;
      whole = m.whole ∙ ap (λ xs. m.front ++ (xs ++ left)) all ∙ sym (append_assoc m.front sent.front left);
      held = sent.held ∙ ap (λ o. append_known o sent.front) m.held
          ∙ append_known-twice old m.front sent.front;
    }

-- a front of the buffer went out
pub stuck : (old now new : Option (List ℕ)) (buffer after left text : List ℕ)
    → Midway old now (buffer ++ left) text
    → Midway now new after buffer → HoldsPrefix old new text
stuck old now new buffer after left text m sent =
    later old now new m.front (buffer ++ left) text m.held (roomless now new buffer after left sent) m.whole
