-- To be believed.
-- What calls on ends of pipes make, one thing after the other: turns that only wait, and then a look that ends the call,
-- or cells that are passed on with a wake.
use Rattle.std.specs.Prelude.{ℕ, zero, suc, ◌≡◌, ◌<◌, ◌≤◌, ◌+◌, ◌/◌, ◌%◌, true, false, Result, Ok, Err, List, [], ◌∷◌}
use Rattle.std.specs.Prelude.{length, take}
use Rattle.wait_model.specs.{declared.layout.TheConstants.PIPE_CELLS, declared.queues.Walked.Walked}
use Rattle.wait_model.specs.declared.steps.Step.TheVariants as step
use Rattle.wait_model.specs.declared.tasks.SleepState.TheVariants as state
use Rattle.wait_model.specs.declared.watches.Watch.TheVariants as watch
use Rattle.wait_rule.specs.declared.journal.EndAct.TheVariants as act
use Rattle.wait_rule.specs.{declared.journal.Item.Item, Known.Known, PipeSays.end_at, Says.added, Says.grown}
use Rattle.wait_rule.specs.Pipes.{bytes_in, end_word, other_end, word_counts}
use Rattle.wait_rule.specs.declared.journal.Item.TheVariants as item
use Rattle.wait_class.specs.Posts.{IsOut}
use Rattle.wait_event.specs.declared.wait_events.WaitEnd.{WaitEnd}
use Rattle.var_wait.specs.{VarPublishes.HasPublished, VarWaits.EndsVarWait}
use Rattle.wait_pipe.specs.{declared.pieces.PipeEnd.PipeEnd, Pieces.ShowsNoCell, Pieces.end_of_wait}
use Rattle.wait_pipe.specs.declared.pieces.PipeEnd.TheVariants as pipe_end

-- the task loaded the word of the other end of end k, and found w
abbrev pub LoadsOther : ℕ → ℕ → Known → Known → Type 0
LoadsOther k w old new = new ≡ added old (item.Made (step.Load (watch.Var (other_end k) 0) w))

-- It waited, interruptibly, for that word to be another than w: so it does only where w shows the other end open, and no
-- cell for its own. It had no entry queued.
pub record AwaitsOther (k w : ℕ) (old new : Known) (r : Result (Unit {0}) PipeEnd) : Type 0 where
  pub none : ShowsNoCell k (end_at k old) w
  pub out : IsOut old
  pub outcome : Result ℕ WaitEnd
  pub waits : EndsVarWait old new (other_end k) w state.Interruptible outcome
  pub answers : r ≡ end_of_wait outcome

-- One turn that waits: the task looked at the other end's word, and waited for it to change.
pub record WaitingTurn (k : ℕ) (old new : Known) (r : Result (Unit {0}) PipeEnd) : Type 0 where
  pub word : ℕ
  pub looked : Known
  pub looks : LoadsOther k word old looked
  pub waits : AwaitsOther k word looked new r

-- Such turns in which the word changed, one after the other; the list has what the task knew after each.
abbrev pub WaitingTurns : ℕ → Known → List Known → Known → Type 0
WaitingTurns k old [] new = new ≡ old
WaitingTurns k old (next ∷ more) new = WaitingTurn k old next (Ok tt) × WaitingTurns k next more new

-- cells that a task stores at a write end, or loads at a read end
abbrev pub cell_items : ℕ → List ℕ → List Item
cell_items k [] = []
cell_items k (w ∷ ws) = item.Piped k act.Cell w ∷ cell_items k ws

-- What a task makes behind a publish of variable v: with that, the call `publish_var_and_wake`. It walks only where its
-- look finds a member.
abbrev pub WakesAfter : ℕ → Known → Known → Walked → Type 0
WakesAfter v old new walked = (before : Known) (value found : ℕ)
    → old ≡ added before (item.Made (step.Publish (watch.Var v 0) value found)) → HasPublished before new v value walked

-- The task stored cells or loaded them, of these bytes, and passed them on by one publish of its word, which counts them
-- all and shows the end open, with the wake of those who wait for that: it walked only where its look found a member.
pub record PassesCells (k : ℕ) (old new : Known) (text : List ℕ) : Type 0 where
  pub cells : List ℕ
  pub bytes : bytes_in cells ≡ text
  pub walked : Walked
  pub publishes : HasPublished (grown old (cell_items k cells) old.book) new k
      (end_word ((end_at k old).count + length cells) false) walked

-- it closed the end by such a publish
abbrev pub ClosesEnd : ℕ → Known → Known → Type 0
ClosesEnd k old new = (walked : Walked) × HasPublished old new k (end_word (end_at k old).count true) walked

-- Cells that a task which knew `looked` stored for the first n bytes of the text: as many as these need, none that it
-- has not seen free, and where bytes are left all that it has seen free.
pub record StoresCells (k : ℕ) (looked new : Known) (text : List ℕ) (n : ℕ) : Type 0 where
  pub passes : PassesCells k looked new (take n text)
  pub some : 0 < n
  pub dense : length passes.cells ≡ (n + 6) / 7
  pub room : (end_at k looked).count + length passes.cells ≤ (end_at k looked).seen + PIPE_CELLS
  pub full : n < length text → (end_at k looked).count + length passes.cells ≡ (end_at k looked).seen + PIPE_CELLS

-- Cells that it loaded, whose bytes are the first n of the buffer: none that it has not seen there, and where the buffer
-- has room for one more all that it has seen there.
pub record LoadsCells (k : ℕ) (looked new : Known) (buf : List ℕ) (n : ℕ) : Type 0 where
  pub passes : PassesCells k looked new (take n buf)
  pub there : (end_at k looked).count + length passes.cells ≤ (end_at k looked).seen
  pub all : n + 7 ≤ length buf → (end_at k looked).count + length passes.cells ≡ (end_at k looked).seen

-- A look at the other end's word, by which the task knows `looked`, with the count of cells that the word shows.
pub record LooksOver (k : ℕ) (old looked : Known) : Type 0 where
  pub word : ℕ
  pub loads : LoadsOther k word old looked
  pub shown : word / 2 % word_counts ≡ (end_at k looked).seen % word_counts

-- The last turn of a write, by the answer: its look showed the read end open, and it passed cells on; or that end was
-- closed, and it did nothing more; or a wait that ended for another cause.
pub record FillsCells (k : ℕ) (old new : Known) (text : List ℕ) (n : ℕ) : Type 0 where
  pub looked : Known
  pub looks : LooksOver k old looked
  pub unended : looks.word % 2 ≡ 0
  pub stores : StoresCells k looked new text n

-- it did no more than to look at an end that is closed
pub record SeesClosed (k : ℕ) (old new : Known) : Type 0 where
  pub looks : LooksOver k old new
  pub ended : looks.word % 2 ≡ 1

abbrev pub WriteEnds : ℕ → Known → Known → List ℕ → Result ℕ PipeEnd → Type 0
WriteEnds k old new text (Ok n) = FillsCells k old new text n
WriteEnds k old new text (Err pipe_end.Broken) = SeesClosed k old new
WriteEnds k old new text (Err e) = WaitingTurn k old new (Err e)

-- The last turn of a read: it passed cells on; or its look showed the write end closed, and it took nothing; or a wait
-- that ended for another cause.
pub record DrainsCells (k : ℕ) (old new : Known) (buf : List ℕ) (n : ℕ) : Type 0 where
  pub looked : Known
  pub looks : LooksOver k old looked
  pub loads : LoadsCells k looked new buf n

-- the write end was seen closed, with every cell taken that it passed on
pub record SeesEnd (k : ℕ) (old new : Known) : Type 0 where
  pub closed : SeesClosed k old new
  pub all : (end_at k new).count ≡ (end_at k new).seen

abbrev pub ReadEnds : ℕ → Known → Known → List ℕ → Result ℕ PipeEnd → Type 0
ReadEnds k old new buf (Ok zero) = SeesEnd k old new
ReadEnds k old new buf (Ok (suc n)) = DrainsCells k old new buf (suc n)
ReadEnds k old new buf (Err e) = WaitingTurn k old new (Err e)

-- A whole call: turns that wait, and a last one.
pub record WritesPiece (k : ℕ) (old new : Known) (text : List ℕ) (r : Result ℕ PipeEnd) : Type 0 where
  pub turns : List Known
  pub last : Known
  pub waits : WaitingTurns k old turns last
  pub ends : WriteEnds k last new text r

pub record ReadsPiece (k : ℕ) (old new : Known) (buf : List ℕ) (r : Result ℕ PipeEnd) : Type 0 where
  pub turns : List Known
  pub last : Known
  pub waits : WaitingTurns k old turns last
  pub ends : ReadEnds k last new buf r
