-- The turns of a task that writes a piece or reads one, and may leave its wait.
use Rattle.std.proofs.Common.{refl, subst}
use Rattle.std.specs.Prelude.{ℕ, ◌++◌, Result, Err, List, [], ◌∷◌}
use Rattle.wait_rule.specs.{Known.Known, Pipes.read_end, Pipes.write_end}
use Rattle.wait_rule.specs.PipeSays.{end_at, reading, writing}
use Rattle.wait_leave.specs.declared.exits.Until.{Until}
use Rattle.wait_leave.specs.declared.exits.Until.TheVariants as until
use Rattle.wait_pipe.specs.declared.pieces.PipeEnd.{PipeEnd}
use Rattle.wait_pipe.specs.declared.pieces.PipeEnd.TheVariants as pipe_end
use Rattle.wait_pipe.specs.PieceLeaves.{AwaitsUntil, GotUntil, LeftNone, PutUntil, ReadEndsUntil, ReadsUntil}
use Rattle.wait_pipe.specs.PieceLeaves.{SeesNoCell, TurnGoesOn, UntilTurn, UntilTurns, WasPieceLeft, WriteEndsUntil}
use Rattle.wait_pipe.specs.PieceLeaves.{WritesUntil}
use Rattle.wait_pipe.specs.Pieces.{IsReadCause, IsSettled, WaitsAtPipe}
use Rattle.wait_pipe.proofs.{Fills.waited_none, Fills.waited_then, PieceChanges.waits_on}
use Rattle.wait_pipe.proofs.{Turns.got_then, Turns.put_then}

-- over turns that only wait
pub put_until_then : (A : Type 0) (p : ℕ) {old now : Known} → WaitsAtPipe (write_end p) old now → IsSettled (writing p old)
    → (new : Known) (text : List ℕ) (r : Until (Result ℕ PipeEnd)) → PutUntil A p now new text r
    → PutUntil A p old new text r
put_until_then A p w s new text (until.Over r) put = put_then p w s new text r put
put_until_then A p w s new text (until.Left seen) none = record {
  moved = waited_then w s new [] none.moved;
  left = none.left;
}

pub got_until_then : (A : Type 0) (p : ℕ) {old now : Known} → WaitsAtPipe (read_end p) old now → IsSettled (reading p old)
    → (new : Known) (buf : List ℕ) (r : Until (Result ℕ PipeEnd)) → GotUntil A p now new buf r → GotUntil A p old new buf r
got_until_then A p w s new buf (until.Over r) got = got_then p w s new buf r got
got_until_then A p w s new buf (until.Left seen) none = record {
  moved = waited_then w s new [] none.moved;
  left = none.left;
}

pub left_none : {A : Type 0} {k : ℕ} {old new : Known} {seen : ℕ} → WaitsAtPipe k old new → IsSettled (end_at k old)
    → WasPieceLeft A new k seen → LeftNone A k old new seen
left_none w s left = record { moved = waited_none w s; left = left }

-- one after the other
turns_more : (A : Type 0) (k : ℕ) (old : Known) (ts : List Known) (now new : Known) → UntilTurns A k old ts now
    → TurnGoesOn A k now new → UntilTurns A k old (ts ++ new ∷ []) new
turns_more A k old [] now new is turn = (subst (λ (j : Known). TurnGoesOn A k j new) is turn, refl)
turns_more A k old (t ∷ ts) now new w turn = (w.0, turns_more A k t ts now new w.1 turn)

-- a task that has waited so, and goes on
pub record UntilTurning (A : Type 0) (k : ℕ) (old now : Known) : Type 0 where
  pub waits : WaitsAtPipe k old now
  pub turns : List Known
  pub goes : UntilTurns A k old turns now

pub until_on : {A : Type 0} {k : ℕ} {old now new : Known} → UntilTurning A k old now → WaitsAtPipe k now new
    → TurnGoesOn A k now new → UntilTurning A k old new
until_on {A = A} {k = k} {old = old} {now = now} {new = new} t w turn = record {
  waits = waits_on t.waits w;
  turns = t.turns ++ new ∷ [];
  goes = turns_more A k old t.turns now new t.goes turn;
}

pub wrote_until : {A : Type 0} {k : ℕ} {old now new : Known} {text : List ℕ} {r : Until (Result ℕ PipeEnd)}
    → UntilTurning A k old now → WriteEndsUntil A k now new text r → WritesUntil A k old new text r
wrote_until {now = now} t ends = record { turns = t.turns; last = now; waits = t.goes; ends = ends }

pub read_until : {A : Type 0} {k : ℕ} {old now new : Known} {buf : List ℕ} {r : Until (Result ℕ PipeEnd)}
    → UntilTurning A k old now → ReadEndsUntil A k now new buf r → ReadsUntil A k old new buf r
read_until {now = now} t ends = record { turns = t.turns; last = now; waits = t.goes; ends = ends }

-- the last one
pub until_turn : {A : Type 0} {k w : ℕ} {old looked new : Known} {r : Until (Result (Unit {0}) PipeEnd)}
    → SeesNoCell k old looked w → AwaitsUntil A k w looked new r → UntilTurn A k old new r
until_turn {w = w} {looked = looked} looks waits = record { word = w; looked = looked; looks = looks.loads; waits = waits }

pub until_stops : (A : Type 0) (k : ℕ) (old new : Known) (text : List ℕ) (e : PipeEnd) → IsReadCause k new e
    → UntilTurn A k old new (until.Over (Err e)) → WriteEndsUntil A k old new text (until.Over (Err e))
until_stops A k old new text pipe_end.Broken cause turn = absurd cause
until_stops A k old new text (pipe_end.Interrupted seen) cause turn = turn
until_stops A k old new text (pipe_end.Worn head place) cause turn = turn
