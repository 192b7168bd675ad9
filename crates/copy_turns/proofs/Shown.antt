-- What watchers are shown: nothing, a piece, and one stretch after another.
use Rattle.std.proofs.Common.{refl, sym, ◌∙◌, ap, append_assoc, append-nil, arith}
use Rattle.std.proofs.lemmas.List.{length-take-le}
use Rattle.std.proofs.lemmas.List.Elements.{All-append, All-cons, All-nil}
use Rattle.std.proofs.lemmas.List.Folds.{concat-append}
use Rattle.std.specs.Prelude.{ℕ, ◌≡◌, ◌≢◌, ◌≤◌, ◌++◌, List, [], ◌∷◌, length, take, Option, None, Some}
use Rattle.std.specs.List.{concat}
use Rattle.func_head.specs.Walks.{EntryState, shown, shown_all}
use Rattle.copy_plan.specs.{declared.stop.Stop.Stop, declared.TheConstants.PIECE}
use Rattle.copy_plan.specs.declared.stop.Stop.TheVariants as stop
use Rattle.copy_turns.specs.Watched.{IsPiece, ShowsPieces, UnlessFailed}

unless : (how : Option Stop) (X : Type 0) → X → UnlessFailed how X
unless None X x = x
unless (Some stop.Finished) X x = x
unless (Some stop.Broken) X x = x
unless (Some stop.Killed) X x = x
unless (Some stop.Taken) X x = x
unless (Some stop.ReadFault) X x = x
unless (Some stop.WriteFault) X x = tt
unless (Some stop.Memory) X x = tt
unless (Some stop.Long) X x = x
unless (Some (stop.Worn h p)) X x = x

abbrev no_pieces : List (List ℕ)
no_pieces = []

abbrev no_part : List ℕ
no_part = []

pub shows_none : (s : List EntryState) (how : Option Stop) → ShowsPieces s s [] how
shows_none s how = record {
  pieces = no_pieces;
  part = no_part;
  whole = refl;
  each = All-nil IsPiece;
  none = unless how (no_part ≡ []) refl;
  seen = refl;
}

pub shows_one : (s0 s1 : List EntryState) (piece : List ℕ) (how : Option Stop) → IsPiece piece → s1 ≡ shown piece s0
    → ShowsPieces s0 s1 piece how
shows_one s0 s1 piece how is seen = record {
  pieces = piece ∷ [];
  part = no_part;
  whole = sym (append-nil (piece ++ []) ∙ append-nil piece);
  each = All-cons IsPiece piece [] is (All-nil IsPiece);
  none = unless how (no_part ≡ []) refl;
  seen = seen;
}

-- a front of a buffer, where it is not empty
pub is_piece : (n : ℕ) (bytes : List ℕ) → n ≢ 0 → n ≤ length bytes → length bytes ≡ PIECE → IsPiece (take n bytes)
is_piece n bytes some within room =
    let size = length-take-le n bytes within in
    (omega (arith, size, some), omega (arith, size, within, room))

-- a part of a piece in whose midst the sink failed
pub shows_part : (s : List EntryState) (part : List ℕ) (how : Option Stop) → UnlessFailed how (part ≡ [])
    → ShowsPieces s s part how
shows_part s part how none = record {
  pieces = no_pieces;
  part = part;
  whole = refl;
  each = All-nil IsPiece;
  none = none;
  seen = refl;
}

shown_then : (ps qs : List (List ℕ)) (s : List EntryState) → shown_all (ps ++ qs) s ≡ shown_all qs (shown_all ps s)
shown_then [] qs s = refl
shown_then (p ∷ ps) qs s = shown_then ps qs (shown p s)

module _ (s0 s1 s2 : List EntryState) (xs ys : List ℕ) (how : Option Stop) (one : ShowsPieces s0 s1 xs None)
    (two : ShowsPieces s1 s2 ys how) where
  front_is : xs ≡ concat one.pieces
  front_is = one.whole ∙ (ap (λ (l : List ℕ). concat one.pieces ++ l) one.none ∙ append-nil (concat one.pieces))

  pub shows_then : ShowsPieces s0 s2 (xs ++ ys) how
  shows_then = record {
    pieces = one.pieces ++ two.pieces;
    part = two.part;
    whole = ap (λ (l : List ℕ). l ++ ys) front_is ∙ (ap (λ (l : List ℕ). concat one.pieces ++ l) two.whole
        ∙ (sym (append_assoc (concat one.pieces) (concat two.pieces) two.part)
        ∙ ap (λ (l : List ℕ). l ++ two.part) (sym (concat-append one.pieces two.pieces))));
    each = All-append IsPiece one.pieces two.pieces one.each two.each;
    none = two.none;
    seen = two.seen ∙ (ap (shown_all two.pieces) one.seen ∙ sym (shown_then one.pieces two.pieces s0));
  }
