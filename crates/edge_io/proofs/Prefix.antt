-- Laws of texts that are written one after another, and of what is held where one of them fails. Only
-- proofs use them.
use Rattle.std.proofs.Common.{◌≡◌, ℕ, List, [], ◌++◌, length, take, drop, Option, Some, None, Result, Ok, Err, OnOk}
use Rattle.std.proofs.Common.{refl, ap, sym, ◌∙◌, append_assoc, take_all, arith}
use Rattle.std.proofs.lemmas.List.{take-append-drop, append-nil}
use Rattle.std.specs.Io.KnownBytes.{append_known}
pub use Rattle.edge_io.specs.Text.{Midway}
use Rattle.edge_io.specs.Text.{HoldsPrefix, WritesText}
use Rattle.edge_io.proofs.Known.{append_known-twice}

append_known-nil : (known : Option (List ℕ)) → known ≡ append_known known []
append_known-nil None = refl
append_known-nil (Some xs) = ap Some (sym (append-nil xs))

-- after the first n bytes nothing more was written
pub stopped : (old now new : Option (List ℕ)) (text : List ℕ) (n : ℕ) → now ≡ append_known old (take n text)
    → new ≡ now → HoldsPrefix old new text
stopped old now new text n first same = record {
  front = take n text;
  rest = drop n text;
  whole = sym (take-append-drop n text);
  held = same ∙ first;
}

-- the first n bytes were written, which are all of them at `Ok`
pub up_to : {T E : Type 0} (r : Result T E) (old new : Option (List ℕ)) (text : List ℕ) (n : ℕ)
    → new ≡ append_known old (take n text) → OnOk r (n ≡ length text) → WritesText old new text r
up_to (Ok x) old new text n wrote all = wrote ∙ ap (λ k. append_known old (take k text)) all
    ∙ ap (append_known old) (take_all (length text) text (omega arith))
up_to (Err e) old new text n wrote all = stopped old new new text n wrote refl

-- nothing was written
pub nothing : (old : Option (List ℕ)) (text : List ℕ) → HoldsPrefix old old text
nothing old text = record { front = []; rest = text; whole = refl; held = append_known-nil old }

-- a fault in a later text
pub later : (old mid new : Option (List ℕ)) (a b text : List ℕ) → mid ≡ append_known old a
    → HoldsPrefix mid new b → text ≡ a ++ b → HoldsPrefix old new text
later old mid new a b text first p e = record {
  front = a ++ p.front;
  rest = p.rest;
  whole = e ∙ ap (λ x. a ++ x) p.whole ∙ sym (append_assoc a p.front p.rest);
  held = p.held ∙ ap (λ o. append_known o p.front) first ∙ append_known-twice old a p.front;
}

-- a fault in an earlier text
pub sooner : (old new : Option (List ℕ)) (a b text : List ℕ) → HoldsPrefix old new a → text ≡ a ++ b
    → HoldsPrefix old new text
sooner old new a b text p e = record {
  front = p.front;
  rest = p.rest ++ b;
  whole = e ∙ ap (λ x. x ++ b) p.whole ∙ append_assoc p.front p.rest b;
  held = p.held;
}

-- a text after another
pub behind : (old mid new : Option (List ℕ)) (a b text : List ℕ) → mid ≡ append_known old a
    → new ≡ append_known mid b → text ≡ a ++ b → new ≡ append_known old text
behind old mid new a b text first second e = second ∙ ap (λ o. append_known o b) first
    ∙ append_known-twice old a b ∙ ap (append_known old) (sym e)

pub begun : (old : Option (List ℕ)) (text : List ℕ) → Midway old old text text
begun old text = record { front = []; whole = refl; held = append_known-nil old }

-- the next piece was written
pub went_on : (old now new : Option (List ℕ)) (piece rest left text : List ℕ) → Midway old now left text
    → left ≡ piece ++ rest → new ≡ append_known now piece → Midway old new rest text
went_on old now new piece rest left text m e wrote = record {
  front = m.front ++ piece;
  whole = m.whole ∙ ap (λ x. m.front ++ x) e ∙ sym (append_assoc m.front piece rest);
  held = wrote ∙ ap (λ o. append_known o piece) m.held ∙ append_known-twice old m.front piece;
}

-- the next piece was broken off
pub broke_off : (old now new : Option (List ℕ)) (piece rest left text : List ℕ) → Midway old now left text
    → left ≡ piece ++ rest → HoldsPrefix now new piece → HoldsPrefix old new text
broke_off old now new piece rest left text m e p =
    later old now new m.front left text m.held (sooner now new piece rest left p e) m.whole

-- nothing is left
pub finished : (old now : Option (List ℕ)) (left text : List ℕ) → Midway old now left text → left ≡ []
    → now ≡ append_known old text
finished old now left text m e = m.held
    ∙ ap (append_known old) (sym (m.whole ∙ ap (λ x. m.front ++ x) e ∙ append-nil m.front))

-- a last text whose answer is handed on
pub handed_on : {T E : Type 0} (r : Result T E) (old mid new : Option (List ℕ)) (a b text : List ℕ)
    → mid ≡ append_known old a → WritesText mid new b r → text ≡ a ++ b → WritesText old new text r
handed_on (Ok x) old mid new a b text first w e = behind old mid new a b text first w e
handed_on (Err y) old mid new a b text first w e = later old mid new a b text first w e
