-- The turns of a merger.
use Rattle.std.proofs.Common.{refl, sym, ◌∙◌, ap, subst, append_assoc, append-nil, arith, length-append}
use Rattle.std.specs.Prelude.{ℕ, ◌≡◌, ◌+◌, ◌^◌, ◌<◌, List, [], ◌∷◌, ◌++◌, length, Option, None, Some}
use Rattle.wait_rule.specs.{Aside.Grows, Known.Known, Pipes.moved_bytes, Pipes.read_end, PipeSays.reading}
use Rattle.wait_rule.specs.PipeSays.{writing}
use Rattle.wait_pipe.specs.Pieces.{IsSettled}
use Rattle.copy_plan.specs.declared.stop.Stop.{Stop}
use Rattle.copy_plan.specs.declared.stop.Stop.TheVariants as stop
use Rattle.copy_turns.specs.Turns.{IfStopped, IfWhole, Relaying}
use Rattle.copy_turns.specs.Work.{IsAtWork}
use Rattle.copy_turns.proofs.PartLaws.{counted_none, counted_same, counted_then, sums_counted, took_before, works_same}
use Rattle.copy_turns.proofs.PartLaws.{works_then}
use Rattle.copy_turns.proofs.Stopping.{finished, stopped_map, whole_map}
use Rattle.copy_turns.proofs.Sums.{sum_none, sum_then}
use Rattle.flow_merge.specs.{declared.sides.Side.Side, Mergers.IsMergerStop, Mergers.Merging, MergerWords.goes_behind}
use Rattle.flow_merge.specs.Sides.{LookedAtSides}
use Rattle.flow_merge.specs.declared.TheConstants.{LEFT_PIPE, MERGED_PIPE, RIGHT_PIPE}
use Rattle.flow_merge.specs.Passed.{Passed, Piece, bytes_if, merged_bytes, bytes_of, read_of, sent_of, side_pipe}
use Rattle.flow_merge.specs.declared.sides.Side.TheVariants as sides
use Rattle.flow_merge.proofs.Looks.{kept_moved, kept_settled}

-- pieces behind pieces
pub of_append : (s : Side) (ps qs : List Piece) → bytes_of s (ps ++ qs) ≡ bytes_of s ps ++ bytes_of s qs
of_append s [] qs = refl
of_append s (p ∷ ps) qs = ap (λ (l : List ℕ). bytes_if s p.side p.bytes ++ l) (of_append s ps qs)
    ∙ sym (append_assoc (bytes_if s p.side p.bytes) (bytes_of s ps) (bytes_of s qs))

pub in_append : (ps qs : List Piece) → merged_bytes (ps ++ qs) ≡ merged_bytes ps ++ merged_bytes qs
in_append [] qs = refl
in_append (p ∷ ps) qs = ap (λ (l : List ℕ). p.bytes ++ l) (in_append ps qs)
    ∙ sym (append_assoc p.bytes (merged_bytes ps) (merged_bytes qs))

none_of : (s t : Side) → bytes_if s t [] ≡ []
none_of sides.Left sides.Left = refl
none_of sides.Left sides.Right = refl
none_of sides.Right sides.Left = refl
none_of sides.Right sides.Right = refl

pub no_front : (xs ys : List ℕ) → xs ++ ys ≡ [] → xs ≡ []
no_front [] ys e = refl
no_front (x ∷ xs) ys e = cc

-- where nothing of one more piece was read
pub reads_whole : (s : Side) (p : Passed) → p.part.bytes ≡ [] → read_of s p ≡ bytes_of s p.pieces
reads_whole s p none = ap (λ (l : List ℕ). bytes_of s p.pieces ++ bytes_if s p.part.side l) none
    ∙ (ap (λ (l : List ℕ). bytes_of s p.pieces ++ l) (none_of s p.part.side) ∙ append-nil (bytes_of s p.pieces))

pub sends_whole : (p : Passed) → p.part.bytes ≡ [] → sent_of p ≡ merged_bytes p.pieces
sends_whole p none = ap (λ (l : List ℕ). merged_bytes p.pieces ++ l) (no_front p.front p.rest (sym p.parts ∙ none))
    ∙ append-nil (merged_bytes p.pieces)

-- some that were passed on whole, and then others
abbrev pub passed_then : Passed → Passed → Passed
passed_then p q = record {
  pieces = p.pieces ++ q.pieces;
  part = q.part;
  front = q.front;
  rest = q.rest;
  parts = q.parts;
}

reads_then : (s : Side) (p q : Passed) → p.part.bytes ≡ [] → read_of s (passed_then p q) ≡ read_of s p ++ read_of s q
reads_then s p q none = ap (λ (l : List ℕ). l ++ bytes_if s q.part.side q.part.bytes) (of_append s p.pieces q.pieces)
    ∙ (append_assoc (bytes_of s p.pieces) (bytes_of s q.pieces) (bytes_if s q.part.side q.part.bytes)
    ∙ ap (λ (l : List ℕ). l ++ read_of s q) (sym (reads_whole s p none)))

sends_then : (p q : Passed) → p.part.bytes ≡ [] → sent_of (passed_then p q) ≡ sent_of p ++ sent_of q
sends_then p q none = ap (λ (l : List ℕ). l ++ q.front) (in_append p.pieces q.pieces)
    ∙ (append_assoc (merged_bytes p.pieces) (merged_bytes q.pieces) q.front
    ∙ ap (λ (l : List ℕ). l ++ sent_of q) (sym (sends_whole p none)))

-- why a merger stopped, told from an earlier moment
pub merger_before : (a b c : Known) → Grows a b → (how : Stop) → IsMergerStop b c how → IsMergerStop a c how
merger_before a b c g stop.Finished is = is
merger_before a b c g stop.Broken is = is
merger_before a b c g stop.Killed is = took_before a b c g is
merger_before a b c g stop.Taken is = absurd is
merger_before a b c g stop.ReadFault is = absurd is
merger_before a b c g stop.WriteFault is = absurd is
merger_before a b c g stop.Memory is = absurd is
merger_before a b c g stop.Long is = absurd is
merger_before a b c g (stop.Worn h p) is = is

-- nothing was passed on
abbrev pub no_piece : Piece
no_piece = record { side = sides.Left; bytes = [] }

abbrev pub no_pieces : List Piece
no_pieces = []

abbrev pub passed_none : Passed
passed_none = record { pieces = no_pieces; part = no_piece; front = []; rest = []; parts = refl }

reads_none : (s : Side) → read_of s passed_none ≡ []
reads_none s = none_of s sides.Left

-- a turn in which nothing was, or no turn at all
pub merging_idle : (a b : Known) (m : ℕ) (how : Option Stop) → m < 2 ^ 64 → LookedAtSides a b
    → ((s : Side) → IsSettled (reading (side_pipe s) a)) → IsSettled (writing MERGED_PIPE a)
    → IfStopped how (IsMergerStop a b) → Merging a b m m how
merging_idle a b m how small l taps pen cause = record {
  works = l.works;
  passed = passed_none;
  taken = λ s. kept_moved (reading (side_pipe s) a) (reading (side_pipe s) b) (l.taps s)
      ∙ (sym (append-nil (moved_bytes (reading (side_pipe s) a)))
      ∙ ap (λ (xs : List ℕ). moved_bytes (reading (side_pipe s) a) ++ xs) (sym (reads_none s)));
  sent = kept_moved (writing MERGED_PIPE a) (writing MERGED_PIPE b) l.pen
      ∙ sym (append-nil (moved_bytes (writing MERGED_PIPE a)));
  all = whole_of how (no_piece.bytes ≡ []) refl;
  taps = λ s. kept_settled (reading (side_pipe s) a) (reading (side_pipe s) b) (l.taps s) (taps s);
  pen = kept_settled (writing MERGED_PIPE a) (writing MERGED_PIPE b) l.pen pen;
  n = 0;
  counted = counted_none a b l.sums;
  counts = whole_of how (0 ≡ length (merged_bytes no_pieces)) refl;
  sum = sum_none m small;
  signals = l.signals;
  cause = cause;
}
  where
    whole_of : (how : Option Stop) (X : Type 0) → X → IfWhole how X
    whole_of None X x = x
    whole_of (Some s) X x = finished s X x

pub merging_none : (k : Known) (m : ℕ) → m < 2 ^ 64 → IsAtWork k → ((s : Side) → IsSettled (reading (side_pipe s) k))
    → IsSettled (writing MERGED_PIPE k) → Merging k k m m None
merging_none k m small work taps pen = record {
  works = works_same k work;
  passed = passed_none;
  taken = λ s. sym (append-nil (moved_bytes (reading (side_pipe s) k)))
      ∙ ap (λ (xs : List ℕ). moved_bytes (reading (side_pipe s) k) ++ xs) (sym (reads_none s));
  sent = sym (append-nil (moved_bytes (writing MERGED_PIPE k)));
  all = refl;
  taps = taps;
  pen = pen;
  n = 0;
  counted = counted_same k;
  counts = refl;
  sum = sum_none m small;
  signals = refl;
  cause = tt;
}

-- turns behind looks
pub merging_behind : (a b c : Known) (m n : ℕ) (how : Option Stop) → LookedAtSides a b → Merging b c m n how
    → Merging a c m n how
merging_behind a b c m n how l r = record {
  works = works_then a b c l.works r.works;
  passed = r.passed;
  taken = λ s. r.taken s ∙ ap (λ (xs : List ℕ). xs ++ read_of s r.passed)
      (kept_moved (reading (side_pipe s) a) (reading (side_pipe s) b) (l.taps s));
  sent = r.sent ∙ ap (λ (xs : List ℕ). xs ++ sent_of r.passed)
      (kept_moved (writing MERGED_PIPE a) (writing MERGED_PIPE b) l.pen);
  all = r.all;
  taps = r.taps;
  pen = r.pen;
  n = r.n;
  counted = sums_counted r.n a b c l.sums r.counted;
  counts = r.counts;
  sum = r.sum;
  signals = r.signals ∙ l.signals;
  cause = stopped_map how (IsMergerStop b c) (IsMergerStop a c) (merger_before a b c l.works.grows) r.cause;
}

-- some turns, and then others
module _ (a b c : Known) (k m n : ℕ) (how : Option Stop) (one : Merging a b k m None) (two : Merging b c m n how) where
  pub merging_then : Merging a c k n how
  merging_then = record {
    works = works_then a b c one.works two.works;
    passed = passed_then one.passed two.passed;
    taken = λ s. two.taken s ∙ (ap (λ (l : List ℕ). l ++ read_of s two.passed) (one.taken s)
        ∙ (append_assoc (moved_bytes (reading (side_pipe s) a)) (read_of s one.passed) (read_of s two.passed)
        ∙ ap (λ (l : List ℕ). moved_bytes (reading (side_pipe s) a) ++ l)
        (sym (reads_then s one.passed two.passed one.all))));
    sent = two.sent ∙ (ap (λ (l : List ℕ). l ++ sent_of two.passed) one.sent
        ∙ (append_assoc (moved_bytes (writing MERGED_PIPE a)) (sent_of one.passed) (sent_of two.passed)
        ∙ ap (λ (l : List ℕ). moved_bytes (writing MERGED_PIPE a) ++ l)
        (sym (sends_then one.passed two.passed one.all))));
    all = two.all;
    taps = two.taps;
    pen = two.pen;
    n = one.n + two.n;
    counted = counted_then one.n two.n a b c one.counted two.counted;
    counts = whole_map how (two.n ≡ length (merged_bytes two.passed.pieces))
        (one.n + two.n ≡ length (merged_bytes (one.passed.pieces ++ two.passed.pieces)))
        (λ e. let f : one.n ≡ length (merged_bytes one.passed.pieces) = one.counts in
        let g = length-append (merged_bytes one.passed.pieces) (merged_bytes two.passed.pieces) in
        let h = ap length (in_append one.passed.pieces two.passed.pieces) in
        omega (arith, e, f, g, h)) two.counts;
    sum = sum_then k m n one.n two.n one.sum two.sum;
    signals = two.signals ∙ one.signals;
    cause = stopped_map how (IsMergerStop b c) (IsMergerStop a c) (merger_before a b c one.works.grows) two.cause;
  }

-- A piece was passed on from a side, or a front of one.
module _ (t : Side) (a b : Known) (m n : ℕ) (taps : (s : Side) → IsSettled (reading (side_pipe s) a)) where
  -- the piece as it is told of each side
  taken_by : (u s : Side) (how : Option Stop) (r : Relaying (side_pipe u) MERGED_PIPE a b m n how)
      → moved_bytes (reading (side_pipe s) b) ≡ moved_bytes (reading (side_pipe s) a) ++ bytes_if s u r.got
  taken_by sides.Left sides.Left how r = r.taken
  taken_by sides.Left sides.Right how r =
      ap moved_bytes (r.others (read_end RIGHT_PIPE) (λ e. omega (arith, e)) (λ e. omega (arith, e)))
      ∙ sym (append-nil (moved_bytes (reading RIGHT_PIPE a)))
  taken_by sides.Right sides.Left how r =
      ap moved_bytes (r.others (read_end LEFT_PIPE) (λ e. omega (arith, e)) (λ e. omega (arith, e)))
      ∙ sym (append-nil (moved_bytes (reading LEFT_PIPE a)))
  taken_by sides.Right sides.Right how r = r.taken

  settled_by : (u s : Side) (how : Option Stop) → Relaying (side_pipe u) MERGED_PIPE a b m n how
      → IsSettled (reading (side_pipe s) b)
  settled_by sides.Left sides.Left how r = r.tap
  settled_by sides.Left sides.Right how r = subst IsSettled
      (sym (r.others (read_end RIGHT_PIPE) (λ e. omega (arith, e)) (λ e. omega (arith, e)))) (taps sides.Right)
  settled_by sides.Right sides.Left how r = subst IsSettled
      (sym (r.others (read_end LEFT_PIPE) (λ e. omega (arith, e)) (λ e. omega (arith, e)))) (taps sides.Left)
  settled_by sides.Right sides.Right how r = r.tap

  -- it went on whole
  whole_piece : (how : Option Stop) (r : Relaying (side_pipe t) MERGED_PIPE a b m n how) → r.rest ≡ []
      → r.n ≡ length r.got → Merging a b m n None
  whole_piece how r none counts =
      let piece : Piece = record { side = t; bytes = r.got } in
      let passed : Passed = record { pieces = piece ∷ []; part = no_piece; front = []; rest = []; parts = refl } in
      let front : r.got ≡ r.front = r.parts ∙ (ap (λ (l : List ℕ). r.front ++ l) none ∙ append-nil r.front) in
      record {
        works = r.works;
        passed = passed;
        taken = λ s. taken_by t s how r ∙ ap (λ (l : List ℕ). moved_bytes (reading (side_pipe s) a) ++ l)
            (sym (reads_whole s passed refl ∙ append-nil (bytes_if s t r.got)));
        sent = r.sent ∙ ap (λ (l : List ℕ). moved_bytes (writing MERGED_PIPE a) ++ l)
            (sym front ∙ sym (append-nil (r.got ++ []) ∙ append-nil r.got));
        all = refl;
        taps = λ s. settled_by t s how r;
        pen = r.pen;
        n = r.n;
        counted = r.counted;
        counts = counts ∙ sym (ap length (append-nil r.got));
        sum = r.sum;
        signals = r.signals;
        cause = tt;
      }

  -- or the merger stopped
  stopped_piece : (how : Stop) (r : Relaying (side_pipe t) MERGED_PIPE a b m n (Some how))
      → ((X : Type 0) → IfWhole (Some how) X) → IsMergerStop a b how → Merging a b m n (Some how)
  stopped_piece how r unfinished cause =
      let piece : Piece = record { side = t; bytes = r.got } in
      let passed : Passed
      = record { pieces = no_pieces; part = piece; front = r.front; rest = r.rest; parts = r.parts } in
      record {
        works = r.works;
        passed = passed;
        taken = λ s. taken_by t s (Some how) r;
        sent = r.sent;
        all = unfinished (r.got ≡ []);
        taps = λ s. settled_by t s (Some how) r;
        pen = r.pen;
        n = r.n;
        counted = r.counted;
        counts = unfinished (r.n ≡ length (merged_bytes no_pieces));
        sum = r.sum;
        signals = r.signals;
        cause = cause;
      }

  pub merging_from : (how : Option Stop) → Relaying (side_pipe t) MERGED_PIPE a b m n how
      → Merging a b m n (goes_behind how)
  merging_from None r = whole_piece None r r.all r.counts
  merging_from (Some stop.Finished) r = whole_piece (Some stop.Finished) r r.all r.counts
  merging_from (Some stop.Broken) r = stopped_piece stop.Broken r (λ X. tt) r.cause
  merging_from (Some stop.Killed) r = stopped_piece stop.Killed r (λ X. tt) r.cause
  merging_from (Some stop.Taken) r = absurd r.cause
  merging_from (Some stop.ReadFault) r = absurd r.cause
  merging_from (Some stop.WriteFault) r = absurd r.cause
  merging_from (Some stop.Memory) r = absurd r.cause
  merging_from (Some stop.Long) r = absurd r.cause
  merging_from (Some (stop.Worn h p)) r = stopped_piece (stop.Worn h p) r (λ X. tt) r.cause
