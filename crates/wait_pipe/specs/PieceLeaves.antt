-- To be believed.
-- Pieces whose calls their task leaves: with which cause, and what such a call makes.
use Rattle.std.specs.Prelude.{ℕ, ◌≡◌, Bool, Result, Ok, Err, IfErr, MatchResult, List, [], ◌∷◌}
use Rattle.wait_model.specs.declared.tasks.SleepState.TheVariants as state
use Rattle.wait_model.specs.declared.watches.Watch.TheVariants as watch
use Rattle.wait_rule.specs.{Known.Known, PipeSays.end_at}
use Rattle.wait_rule.specs.Pipes.{other_end, read_end, write_end}
use Rattle.wait_class.specs.Posts.{IsOut}
use Rattle.wait_leave.specs.declared.exits.Until.{Until}
use Rattle.wait_leave.specs.declared.exits.Until.TheVariants as until
use Rattle.wait_event.specs.{WaitLeaves.FoundUnset, declared.wait_events.WaitEnd.WaitEnd}
use Rattle.wait_event.specs.declared.wait_leaves.WaitUntil.{WaitUntil}
use Rattle.wait_event.specs.declared.wait_leaves.WaitUntil.TheVariants as wait_until
use Rattle.var_wait.specs.VarLeaves.{EndsVarUntil}
use Rattle.wait_pipe.specs.declared.pieces.PipeEnd.{PipeEnd}
use Rattle.wait_pipe.specs.declared.pieces.PipeEnd.TheVariants as pipe_end
use Rattle.wait_pipe.specs.Pieces.{Got, GotNone, IsReadCause, Moved, Put, PutNone, ShowsNoCell, WaitsAtPipe, end_of_wait}
use Rattle.wait_pipe.specs.Trails.{FillsCells, LoadsOther, ReadEnds, SeesClosed}

-- It looked at the other end's word, which is w: it shows that end open, and no cell for end k.
pub record SeesNoCell (k : ℕ) (old new : Known) (w : ℕ) : Type 0 where
  pub waits : WaitsAtPipe k old new
  pub none : ShowsNoCell k (end_at k new) w
  pub loads : LoadsOther k w old new

-- The wait of end k for the other end was left, for this cause: the task was asked to, its entry was taken off or found
-- off, and the load behind that found the other end's word as `seen`, which shows that end open, and no cell for this
-- one.
pub record WasPieceLeft (A : Type 0) (j : Known) (k seen : ℕ) : Type 0 where
  pub asked : A
  pub selected : Bool
  pub queued : Bool
  pub ends : FoundUnset j (watch.Var (other_end k) seen) seen selected queued
  pub none : ShowsNoCell k (end_at k j) seen

-- why a wait of end k ended, if not since the word changed
abbrev pub IsPieceUntil : Type 0 → ℕ → Known → Until (Result (Unit {0}) PipeEnd) → Type 0
IsPieceUntil A k new (until.Over r) = IfErr r (IsReadCause k new)
IsPieceUntil A k new (until.Left seen) = WasPieceLeft A new k seen

-- No byte was passed on by end k: its call was left.
pub record LeftNone (A : Type 0) (k : ℕ) (old new : Known) (seen : ℕ) : Type 0 where
  pub moved : Moved k old new []
  pub left : WasPieceLeft A new k seen

-- what a call says that may be left: as the plain one, or that it was left
abbrev pub PutUntil : Type 0 → ℕ → Known → Known → List ℕ → Until (Result ℕ PipeEnd) → Type 0
PutUntil A p old new text (until.Over r) = MatchResult r (Put p old new text) (PutNone p old new)
PutUntil A p old new text (until.Left seen) = LeftNone A (write_end p) old new seen

abbrev pub GotUntil : Type 0 → ℕ → Known → Known → List ℕ → Until (Result ℕ PipeEnd) → Type 0
GotUntil A p old new buf (until.Over r) = MatchResult r (Got p old new buf) (GotNone p old new)
GotUntil A p old new buf (until.Left seen) = LeftNone A (read_end p) old new seen

-- What such a call makes. The answer of a wait for the other end, which may be left
abbrev pub end_of_until : WaitUntil (Result ℕ WaitEnd) → Until (Result (Unit {0}) PipeEnd)
end_of_until (wait_until.Over r) = until.Over (end_of_wait r)
end_of_until (wait_until.Left seen selected) = until.Left seen

-- It waited for that word to be another than w, interruptibly, and could leave for this cause: so it does only where w
-- shows the other end open, and no cell for its own. It had no entry queued.
pub record AwaitsUntil (A : Type 0) (k w : ℕ) (old new : Known) (r : Until (Result (Unit {0}) PipeEnd)) : Type 0 where
  pub none : ShowsNoCell k (end_at k old) w
  pub out : IsOut old
  pub outcome : WaitUntil (Result ℕ WaitEnd)
  pub waits : EndsVarUntil A old new (other_end k) w state.Interruptible outcome
  pub answers : r ≡ end_of_until outcome

-- one turn that waits so: a look at the other end's word, and the wait
pub record UntilTurn (A : Type 0) (k : ℕ) (old new : Known) (r : Until (Result (Unit {0}) PipeEnd)) : Type 0 where
  pub word : ℕ
  pub looked : Known
  pub looks : LoadsOther k word old looked
  pub waits : AwaitsUntil A k word looked new r

-- such turns in which the word changed, one after the other
abbrev pub TurnGoesOn : Type 0 → ℕ → Known → Known → Type 0
TurnGoesOn A k old new = UntilTurn A k old new (until.Over (Ok tt))

abbrev pub UntilTurns : Type 0 → ℕ → Known → List Known → Known → Type 0
UntilTurns A k old [] new = new ≡ old
UntilTurns A k old (next ∷ more) new = TurnGoesOn A k old next × UntilTurns A k next more new

-- The last turn, by the answer: cells are passed on, or the other end was seen closed, as by a plain call; or it waits,
-- and the wait was left, or ended for another cause.
abbrev pub WriteEndsUntil : Type 0 → ℕ → Known → Known → List ℕ → Until (Result ℕ PipeEnd) → Type 0
WriteEndsUntil A k old new text (until.Over (Ok n)) = FillsCells k old new text n
WriteEndsUntil A k old new text (until.Over (Err pipe_end.Broken)) = SeesClosed k old new
WriteEndsUntil A k old new text (until.Over (Err e)) = UntilTurn A k old new (until.Over (Err e))
WriteEndsUntil A k old new text (until.Left seen) = UntilTurn A k old new (until.Left seen)

abbrev pub ReadEndsUntil : Type 0 → ℕ → Known → Known → List ℕ → Until (Result ℕ PipeEnd) → Type 0
ReadEndsUntil A k old new buf (until.Over (Ok n)) = ReadEnds k old new buf (Ok n)
ReadEndsUntil A k old new buf (until.Over (Err e)) = UntilTurn A k old new (until.Over (Err e))
ReadEndsUntil A k old new buf (until.Left seen) = UntilTurn A k old new (until.Left seen)

-- a whole call: turns that wait, and a last one
pub record WritesUntil (A : Type 0) (k : ℕ) (old new : Known) (text : List ℕ) (r : Until (Result ℕ PipeEnd)) : Type 0
  where
    pub turns : List Known
    pub last : Known
    pub waits : UntilTurns A k old turns last
    pub ends : WriteEndsUntil A k last new text r

pub record ReadsUntil (A : Type 0) (k : ℕ) (old new : Known) (buf : List ℕ) (r : Until (Result ℕ PipeEnd)) : Type 0 where
  pub turns : List Known
  pub last : Known
  pub waits : UntilTurns A k old turns last
  pub ends : ReadEndsUntil A k last new buf r
