-- Whole calls one behind the other: of a piece that is put, of one that is got, and of signals that are sent.
use Rattle.std.proofs.Common.{sym, subst}
use Rattle.std.proofs.lemmas.List.{drop-drop}
use Rattle.std.specs.Prelude.{ℕ, ◌+◌, ◌-◌, ◌++◌, false, Ok, Err, List, [], ◌∷◌, length, take, drop}
use Rattle.edge_io.proofs.Known.{take-rest}
use Rattle.wait_rule.specs.{Aside.Raised, Known.Known}
use Rattle.wait_pipe.specs.{declared.pieces.PipeEnd.PipeEnd, Pieces.IsReadCause, Trails.ReadsPiece, Trails.WritesPiece}
use Rattle.wait_pipe.specs.declared.pieces.PipeEnd.TheVariants as pipe_end
use Rattle.copy_plan.specs.declared.stop.Halt.{Halt}
use Rattle.copy_turns.specs.Transfers.{Again, GetsPiece, Heard, InterruptedRead, Puts, PutsWhole, SendsEach}
use Rattle.copy_turns.specs.Transfers.{heard_again, one_more, took_front}
use Rattle.copy_turns.specs.Work.{GoesOnBy, HaltsBy}

-- what is left of a text, as it is passed to a call
abbrev left_of : List ℕ → ℕ → List ℕ
left_of text n = take (length text - n) (drop n text)

module _ (k : ℕ) (text : List ℕ) (a b c : Known) (n : ℕ) (puts : Puts k text a (drop n text) b) where
  -- a piece more
  pub puts_more : (m : ℕ) → WritesPiece k b c (left_of text n) (Ok m) → Puts k text a (drop (n + m) text) c
  puts_more m w = subst (λ (l : List ℕ). Puts k text a l c) (drop-drop m n text)
      (took_front b c (drop n text) m puts (subst (λ (l : List ℕ). WritesPiece k b c l (Ok m)) (take-rest text n) w))

  same_call : (e : PipeEnd) → WritesPiece k b c (left_of text n) (Err e) → WritesPiece k b c (drop n text) (Err e)
  same_call e w = subst (λ (l : List ℕ). WritesPiece k b c l (Err e)) (take-rest text n) w

  -- none, since a signal came
  pub puts_again : (d : Known) (e : PipeEnd) → WritesPiece k b c (left_of text n) (Err e) → GoesOnBy c d e
      → Puts k text a (drop n text) d
  puts_again d pipe_end.Broken w on = absurd on
  puts_again d (pipe_end.Interrupted seen) w on = heard_again b d (drop n text) puts (record {
    mid = c;
    ended = (seen, same_call (pipe_end.Interrupted seen) w);
    own = on;
  })
  puts_again d (pipe_end.Worn h p) w on = absurd on

  -- and none, since the part is halted
  pub puts_halted : (d : Known) (e : PipeEnd) (h : Halt) → WritesPiece k b c (left_of text n) (Err e)
      → HaltsBy c d e h → PutsWhole k a d text (Err h)
  puts_halted d pipe_end.Broken h w by = subst (λ (x : Halt). PutsWhole k a d text (Err x)) (sym by.0) (record {
    left = drop n text;
    last = b;
    puts = puts;
    ends = subst (λ (x : Known). WritesPiece k b x (drop n text) (Err pipe_end.Broken)) (sym by.1)
        (same_call pipe_end.Broken w);
  })
  puts_halted d (pipe_end.Interrupted seen) h w by = subst (λ (x : Halt). PutsWhole k a d text (Err x)) (sym by.0)
      (record {
        left = drop n text;
        last = b;
        puts = puts;
        ends = record { mid = c; ended = (seen, same_call (pipe_end.Interrupted seen) w); own = by.1 };
      })
  puts_halted d (pipe_end.Worn q p) h w by = subst (λ (x : Halt). PutsWhole k a d text (Err x)) (sym by.0) (record {
    left = drop n text;
    last = b;
    puts = puts;
    ends = subst (λ (x : Known). WritesPiece k b x (drop n text) (Err (pipe_end.Worn q p))) (sym by.1)
        (same_call (pipe_end.Worn q p) w);
  })

-- A piece that is got.
abbrev pub GetsNone : ℕ → Known → Known → Type 0
GetsNone k a b = Again (λ x y. Heard (InterruptedRead k) x y false) a b

module _ (k : ℕ) (a b c : Known) (gets : GetsNone k a b) (buf : List ℕ) where
  pub gets_piece : (n : ℕ) → ReadsPiece k b c buf (Ok n) → GetsPiece k a c buf (Ok n)
  gets_piece n r = record { last = b; again = gets; ends = r }

  pub gets_again : (d : Known) (e : PipeEnd) → ReadsPiece k b c buf (Err e) → GoesOnBy c d e → GetsNone k a d
  gets_again d pipe_end.Broken r on = absurd on
  gets_again d (pipe_end.Interrupted seen) r on =
      one_more b d gets (record { mid = c; ended = (seen, buf, r); own = on })
  gets_again d (pipe_end.Worn h p) r on = absurd on

  pub gets_halted : (d : Known) (e : PipeEnd) (h : Halt) → ReadsPiece k b c buf (Err e) → IsReadCause k c e
      → HaltsBy c d e h → GetsPiece k a d buf (Err h)
  gets_halted d pipe_end.Broken h r cause by = absurd cause
  gets_halted d (pipe_end.Interrupted seen) h r cause by = subst (λ (x : Halt). GetsPiece k a d buf (Err x))
      (sym by.0) (record { last = b; again = gets; ends = record { mid = c; ended = (seen, buf, r); own = by.1 } })
  gets_halted d (pipe_end.Worn q p) h r cause by = subst (λ (x : Halt). GetsPiece k a d buf (Err x)) (sym by.0)
      (record {
        last = b;
        again = gets;
        ends = subst (λ (x : Known). ReadsPiece k b x buf (Err (pipe_end.Worn q p))) (sym by.1) r;
      })

-- signals that are sent behind others
pub sends_each_then : (xs ys : List Raised) (a b c : Known) → SendsEach xs a b → SendsEach ys b c
    → SendsEach (xs ++ ys) a c
sends_each_then [] ys a b c one two = subst (λ (k : Known). SendsEach ys k c) one two
sends_each_then (x ∷ xs) ys a b c one two = (one.0, one.1, sends_each_then xs ys one.0 b c one.2 two)
