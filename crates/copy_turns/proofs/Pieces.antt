-- Pieces that a worker puts into a pipe or takes out of it, one after another, and what ends such a part.
use Rattle.std.proofs.Common.{refl, sym, ◌∙◌, ap, subst, append-nil, take-add, length-append, arith}
use Rattle.std.proofs.lemmas.List.{length-take-le, take_all, take-append-drop}
use Rattle.std.specs.Prelude.{ℕ, ◌≡◌, ◌+◌, ◌-◌, ◌≤◌, ◌++◌, Result, Ok, Err, IfErr, MatchResult, List, [], length, take}
use Rattle.std.specs.Prelude.{drop}
use Rattle.edge_io.proofs.Known.{take-rest}
use Rattle.wait_rule.specs.{Aside.Grows, Known.Known, PipeSays.end_at}
use Rattle.wait_pipe.specs.declared.pieces.PipeEnd.{PipeEnd}
use Rattle.wait_pipe.specs.declared.pieces.PipeEnd.TheVariants as pipe_end
use Rattle.wait_pipe.specs.Pieces.{IsPipeCause, IsReadCause, IsSettled, Moved, RestsBehindPiece}
use Rattle.copy_plan.specs.declared.stop.Halt.{Halt}
use Rattle.copy_plan.specs.declared.stop.Halt.TheVariants as halt
use Rattle.copy_turns.specs.Turns.{CountedAll, HasGotBytes, HandedAll, HandedFront}
use Rattle.copy_turns.specs.Work.{Apart, HaltsBy, IsAtWork, IsHalt, IsOwnHalt}
use Rattle.copy_turns.proofs.{Frames.own_kills, Frames.piece_works, Stopping.own_halt}
use Rattle.copy_turns.proofs.PartLaws.{halt_before, moved_ends, moved_none, moved_then, sums_counted, sums_then}
use Rattle.copy_turns.proofs.PartLaws.{took_before, works_same, works_then}

pub got_none : (k : ℕ) (a : Known) → IsAtWork a → IsSettled (end_at k a) → HasGotBytes k a a []
got_none k a work settled = record {
  works = works_same a work;
  moved = moved_none k a settled;
  sums = λ p. refl;
  signals = refl;
}

pub got_then : (k : ℕ) (a b c : Known) (xs ys : List ℕ) → HasGotBytes k a b xs → HasGotBytes k b c ys → HasGotBytes k a c (xs ++ ys)
got_then k a b c xs ys one two = record {
  works = works_then a b c one.works two.works;
  moved = moved_then k a b c xs ys one.moved two.moved;
  sums = sums_then a b c one.sums two.sums;
  signals = two.signals ∙ one.signals;
}

pub got_apart : (k : ℕ) (a b c : Known) (xs : List ℕ) → HasGotBytes k a b xs → Apart b c → HasGotBytes k a c xs
got_apart k a b c xs one two = record {
  works = works_then a b c one.works two.works;
  moved = moved_ends k a b c xs one.moved two.ends;
  sums = sums_then a b c one.sums two.sums;
  signals = two.signals ∙ one.signals;
}

pub piece_got : (k : ℕ) (a b : Known) (xs : List ℕ) → IsAtWork a → RestsBehindPiece k a b → Moved k a b xs → HasGotBytes k a b xs
piece_got k a b xs work rests moved = record {
  works = piece_works k a b work rests;
  moved = moved;
  sums = rests.aside.sums;
  signals = rests.aside.signals;
}

-- a piece behind others, and none behind others
pub got_more : (k : ℕ) (a b c : Known) (xs ys : List ℕ) → HasGotBytes k a b xs → RestsBehindPiece k b c → Moved k b c ys
    → HasGotBytes k a c (xs ++ ys)
got_more k a b c xs ys one rests moved = got_then k a b c xs ys one (piece_got k b c ys one.works.work rests moved)

pub got_still : (k : ℕ) (a b c : Known) (xs : List ℕ) → HasGotBytes k a b xs → RestsBehindPiece k b c → Moved k b c [] → HasGotBytes k a c xs
got_still k a b c xs one rests moved = subst (HasGotBytes k a c) (append-nil xs) (got_more k a b c xs [] one rests moved)

-- a front of a piece, and more of it
pub put_more : (k : ℕ) (a b c : Known) (text : List ℕ) (n m : ℕ) → HasGotBytes k a b (take n text) → RestsBehindPiece k b c
    → Moved k b c (take m (take (length text - n) (drop n text))) → HasGotBytes k a c (take (n + m) text)
put_more k a b c text n m one rests moved = subst (HasGotBytes k a c)
    (ap (λ l. take n text ++ take m l) (take-rest text n) ∙ sym (take-add n m text))
    (got_more k a b c (take n text) (take m (take (length text - n) (drop n text))) one rests moved)

pub put_all : (k : ℕ) (a b : Known) (text : List ℕ) (n : ℕ) → HasGotBytes k a b (take n text) → n ≡ length text
    → HasGotBytes k a b text
put_all k a b text n one whole = subst (HasGotBytes k a b) (take_all n text (omega arith)) one

-- why it was halted, told from an earlier moment
module _ (k : ℕ) (a c d : Known) (grows : Grows a c) where
  same_halt : (h : Halt) → d ≡ c → IsHalt k a c h → IsHalt k a d h
  same_halt h same is = subst (λ (x : Known). IsHalt k a x h) (sym same) is

  pub halts : (e : PipeEnd) (h : Halt) → IsPipeCause k c e → HaltsBy c d e h → IsHalt k a d h
  halts pipe_end.Broken h cause by = subst (IsHalt k a d) (sym by.0) (same_halt halt.Broken by.1 cause)
  halts (pipe_end.Interrupted seen) h cause by = subst (IsHalt k a d) (sym by.0)
      (took_before a c d grows (own_kills c d by.1))
  halts (pipe_end.Worn head place) h cause by = subst (IsHalt k a d) (sym by.0)
      (same_halt (halt.Worn head place) by.1 cause.ends.noted)

  pub own_halts : (e : PipeEnd) (h : Halt) → IsReadCause k c e → HaltsBy c d e h → IsOwnHalt a d h
  own_halts pipe_end.Broken h cause by = absurd cause
  own_halts (pipe_end.Interrupted seen) h cause by = subst (IsOwnHalt a d) (sym by.0)
      (took_before a c d grows (own_kills c d by.1))
  own_halts (pipe_end.Worn head place) h cause by = subst (IsOwnHalt a d) (sym by.0)
      (subst (λ (x : Known). IsOwnHalt a x (halt.Worn head place)) (sym by.1) cause.ends.noted)

-- a front that went in before the part was halted
pub put_front : (k : ℕ) (a b c d : Known) (text : List ℕ) (n : ℕ) (e : PipeEnd) (h : Halt) → HasGotBytes k a b (take n text)
    → RestsBehindPiece k b c → Moved k b c [] → IsPipeCause k c e → Apart c d → HaltsBy c d e h → HandedFront k a d text h
put_front k a b c d text n e h one rests moved cause apart by =
    let still = got_still k a b c (take n text) one rests moved in
    let all = got_apart k a c d (take n text) still apart in
    record {
      works = all.works;
      front = take n text;
      rest = drop n text;
      parts = sym (take-append-drop n text);
      moved = all.moved;
      sums = all.sums;
      signals = all.signals;
      cause = halts k a c d still.works.grows e h cause by;
    }

-- it went in whole, and was counted, or was not
pub handed_all : (k : ℕ) (a b c : Known) (text : List ℕ) → HasGotBytes k a b text → CountedAll (length text) b c
    → HandedAll k a c text
handed_all k a b c text one two = record {
  works = works_then a b c one.works two.works;
  moved = moved_ends k a b c text one.moved two.ends;
  counted = sums_counted (length text) a b c one.sums two.counted;
  signals = two.signals ∙ one.signals;
}

pub handed_uncounted : (k : ℕ) (a b c : Known) (text : List ℕ) (h : Halt) → HasGotBytes k a b text → Apart b c
    → IsOwnHalt b c h → HandedFront k a c text h
handed_uncounted k a b c text h one two is =
    let all = got_apart k a b c text one two in
    record {
      works = all.works;
      front = text;
      rest = [];
      parts = sym (append-nil text);
      moved = all.moved;
      sums = all.sums;
      signals = all.signals;
      cause = halt_before k a b c h one.works.grows (own_halt b c h is k);
    }

pub handed_end : (k : ℕ) (a b c : Known) (text : List ℕ) (r : Result (Unit {0}) Halt) → HasGotBytes k a b text
    → MatchResult r (λ _. CountedAll (length text) b c) (λ _. Apart b c) → IfErr r (IsOwnHalt b c)
    → MatchResult r (λ _. HandedAll k a c text) (λ h. HandedFront k a c text h)
handed_end k a b c text (Ok u) one two is = handed_all k a b c text one two
handed_end k a b c text (Err h) one two is = handed_uncounted k a b c text h one two is

-- what is left of a piece
pub rest_length : (text : List ℕ) (n : ℕ) → n ≤ length text
    → length (take (length text - n) (drop n text)) + n ≡ length text
rest_length text n low =
    let whole : length (take n text) + length (drop n text) ≡ length text
    = sym (length-append (take n text) (drop n text)) ∙ ap length (take-append-drop n text) in
    let front = length-take-le n text low in
    let same = ap length (take-rest text n) in
    omega arith
