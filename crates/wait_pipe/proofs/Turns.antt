-- The turns of a task that writes a piece or reads one: it looks, and then passes on or waits.
use Rattle.std.proofs.Common.{◌∙◌, ap, arith, refl, subst}
use Rattle.std.specs.Prelude.{ℕ, zero, suc, ◌≡◌, ◌<◌, ◌≤◌, ◌+◌, ◌/◌, ◌%◌, true, false, List, [], ◌∷◌, ◌++◌, length}
use Rattle.std.specs.Prelude.{take, Result, Ok, Err, MatchResult}
use Rattle.wait_rule.specs.{Known.Known, Pipes.read_end, Pipes.write_end, PipeSays.reading, PipeSays.writing}
use Rattle.wait_pipe.specs.{declared.pieces.PipeEnd.PipeEnd, PassedOn.Drained, PassedOn.Filled, PieceLeaves.SeesNoCell}
use Rattle.wait_pipe.specs.Pieces.{Got, GotNone, IsAtEnd, IsPipeCause, IsReadCause, IsSettled, Put}
use Rattle.wait_pipe.specs.Pieces.{PutNone, RestsBehindPiece, WaitsAtPipe}
use Rattle.wait_pipe.specs.Trails.{AwaitsOther, FillsCells, LoadsCells, LooksOver, ReadEnds, ReadsPiece, StoresCells}
use Rattle.wait_pipe.specs.Trails.{WaitingTurn, WaitingTurns, WriteEnds, WritesPiece}
use Rattle.wait_pipe.specs.declared.pieces.PipeEnd.TheVariants as pipe_end
use Rattle.wait_pipe.proofs.PieceChanges.{rests_on, waits_on}
use Rattle.wait_pipe.proofs.Fills.{waited_none, waited_then}

-- why a wait ended is also why nothing was written
pub wait_cause : (k : ℕ) (new : Known) (e : PipeEnd) → IsReadCause k new e → IsPipeCause k new e
wait_cause k new pipe_end.Broken is = absurd is
wait_cause k new (pipe_end.Interrupted seen) is = is
wait_cause k new (pipe_end.Worn head place) is = is

-- A task that writes, over turns that only wait.
module _ (p : ℕ) {old now : Known} (w : WaitsAtPipe (write_end p) old now) (s : IsSettled (writing p old)) where
  pub put_broken : (writing p now).ended ≡ true → PutNone p old now pipe_end.Broken
  put_broken ended = record { moved = waited_none w s; cause = ended }

  pub put_filled : {new : Known} {text : List ℕ} {n : ℕ} → Filled p now new text n → 0 < n → n ≤ length text
      → (writing p now).ended ≡ false → Put p old new text n
  put_filled {new = new} {text = text} {n = n} f some most unended = record {
    some = some;
    most = most;
    moved = waited_then w s new (take n text) f.moved;
    unended = f.ended ∙ unended;
    cells = f.cells ∙ ap (λ m. m + (n + 6) / 7) w.keeps.count;
    full = f.full;
  }

  pub put_then : (new : Known) (text : List ℕ) (r : Result ℕ PipeEnd)
      → MatchResult r (Put p now new text) (PutNone p now new) → MatchResult r (Put p old new text) (PutNone p old new)
  put_then new text (Ok n) put = record {
    some = put.some;
    most = put.most;
    moved = waited_then w s new (take n text) put.moved;
    unended = put.unended;
    cells = put.cells ∙ ap (λ m. m + (n + 6) / 7) w.keeps.count;
    full = put.full;
  }
  put_then new text (Err e) put = record {
    moved = waited_then w s new [] put.moved;
    cause = put.cause;
  }

-- A task that reads, over such turns.
module _ (p : ℕ) {old now : Known} (w : WaitsAtPipe (read_end p) old now) (s : IsSettled (reading p old)) where
  pub got_drained : {new : Known} {buf : List ℕ} {n : ℕ} → Drained p now new buf n → 0 < n → n ≤ length buf
      → Got p old new buf n
  got_drained {new = new} {buf = buf} {n = n} d some most = record {
    most = most;
    moved = waited_then w s new (take n buf) d.moved;
    some = λ there. some;
    none = λ none. absurd (omega arith);
    all = d.all;
  }

  pub got_end : (buf : List ℕ) → IsAtEnd (reading p now) → Got p old now buf 0
  got_end buf end =
      let all = end.all in
      let count = w.keeps.count in record {
        most = omega arith;
        moved = waited_none w s;
        some = λ there. absurd (omega arith);
        none = λ none. end;
        all = λ room. end.all;
      }

  pub got_then : (new : Known) (buf : List ℕ) (r : Result ℕ PipeEnd)
      → MatchResult r (Got p now new buf) (GotNone p now new) → MatchResult r (Got p old new buf) (GotNone p old new)
  got_then new buf (Ok n) got =
      let count = w.keeps.count in record {
        most = got.most;
        moved = waited_then w s new (take n buf) got.moved;
        some = λ there. got.some (let few : (reading p now).count < (reading p new).seen = omega arith in few);
        none = got.none;
        all = got.all;
      }
  got_then new buf (Err e) got = record {
    moved = waited_then w s new [] got.moved;
    cause = got.cause;
  }

-- what it leaves of the task
pub then_rests : {k : ℕ} {old now new : Known} → WaitsAtPipe k old now → RestsBehindPiece k now new → RestsBehindPiece k old new
then_rests {k = k} {old = old} {now = now} {new = new} w r = rests_on k old now new w.rests r

-- Turns that wait, one after the other.
turns_more : (k : ℕ) (old : Known) (ts : List Known) (now new : Known) → WaitingTurns k old ts now
    → WaitingTurn k now new (Ok tt) → WaitingTurns k old (ts ++ new ∷ []) new
turns_more k old [] now new is turn = (subst (λ (j : Known). WaitingTurn k j new (Ok tt)) is turn, refl)
turns_more k old (t ∷ ts) now new w turn = (w.0, turns_more k t ts now new w.1 turn)

-- a task that has waited so, and goes on
pub record Turning (k : ℕ) (old now : Known) : Type 0 where
  pub waits : WaitsAtPipe k old now
  pub turns : List Known
  pub goes : WaitingTurns k old turns now

pub turning_on : {k : ℕ} {old now new : Known} → Turning k old now → WaitsAtPipe k now new → WaitingTurn k now new (Ok tt)
    → Turning k old new
turning_on {k = k} {old = old} {now = now} {new = new} t w turn = record {
  waits = waits_on t.waits w;
  turns = t.turns ++ new ∷ [];
  goes = turns_more k old t.turns now new t.goes turn;
}

pub wrote_piece : {k : ℕ} {old now new : Known} {text : List ℕ} {r : Result ℕ PipeEnd} → Turning k old now
    → WriteEnds k now new text r → WritesPiece k old new text r
wrote_piece {now = now} t ends = record { turns = t.turns; last = now; waits = t.goes; ends = ends }

pub got_piece : {k : ℕ} {old now new : Known} {buf : List ℕ} {r : Result ℕ PipeEnd} → Turning k old now
    → ReadEnds k now new buf r → ReadsPiece k old new buf r
got_piece {now = now} t ends = record { turns = t.turns; last = now; waits = t.goes; ends = ends }

-- the last one
pub turn_of : {k w : ℕ} {old looked new : Known} {r : Result (Unit {0}) PipeEnd} → SeesNoCell k old looked w
    → AwaitsOther k w looked new r → WaitingTurn k old new r
turn_of {w = w} {looked = looked} looks waits = record { word = w; looked = looked; looks = looks.loads; waits = waits }

pub write_stops : (k : ℕ) (old new : Known) (text : List ℕ) (e : PipeEnd) → IsReadCause k new e
    → WaitingTurn k old new (Err e) → WriteEnds k old new text (Err e)
write_stops k old new text pipe_end.Broken cause turn = absurd cause
write_stops k old new text (pipe_end.Interrupted seen) cause turn = turn
write_stops k old new text (pipe_end.Worn head place) cause turn = turn

pub wrote_some : {k n : ℕ} {old looked new : Known} {text : List ℕ} (l : LooksOver k old looked) → l.word % 2 ≡ 0
    → StoresCells k looked new text n → FillsCells k old new text n
wrote_some {looked = looked} l unended stores = record { looked = looked; looks = l; unended = unended; stores = stores }

pub read_some : {k n : ℕ} {old looked new : Known} {buf : List ℕ} → LooksOver k old looked → 0 < n
    → LoadsCells k looked new buf n → ReadEnds k old new buf (Ok n)
read_some {n = zero} l some loads = absurd (omega arith)
read_some {n = suc n} {looked = looked} l some loads = record { looked = looked; looks = l; loads = loads }

pub wrote_later : {k : ℕ} {old now new : Known} {text : List ℕ} {r : Result ℕ PipeEnd} → WaitingTurn k old now (Ok tt)
    → WritesPiece k now new text r → WritesPiece k old new text r
wrote_later {now = now} turn w = record {
  turns = now ∷ w.turns;
  last = w.last;
  waits = (turn, w.waits);
  ends = w.ends;
}

pub got_later : {k : ℕ} {old now new : Known} {buf : List ℕ} {r : Result ℕ PipeEnd} → WaitingTurn k old now (Ok tt)
    → ReadsPiece k now new buf r → ReadsPiece k old new buf r
got_later {now = now} turn w = record {
  turns = now ∷ w.turns;
  last = w.last;
  waits = (turn, w.waits);
  ends = w.ends;
}
