-- To be believed.
-- What a piece of bytes tells that went into a pipe or came out of it, and what calls on ends leave of a task.
use Rattle.std.specs.Prelude.{ℕ, ◌≡◌, ◌≢◌, ◌<◌, ◌≤◌, ◌+◌, ◌/◌, ◌%◌, ◌==◌, ◌++◌, Bool, true, false, Result, Ok, Err}
use Rattle.std.specs.Prelude.{List, [], length, take}
use Rattle.wait_model.specs.declared.layout.TheConstants.{PIPE_CELLS, PIPE_ENDS}
use Rattle.wait_model.specs.declared.tasks.SleepState.TheVariants as state
use Rattle.wait_model.specs.declared.watches.Watch.TheVariants as watch
use Rattle.wait_model.specs.Watches.{same}
use Rattle.wait_rule.specs.{Aside.GrowsAside, HandedPermits.StaysOff, Known.Known, Queues.IsIdle, Queues.index}
use Rattle.wait_rule.specs.Says.{IsUp}
use Rattle.wait_rule.specs.Pipes.{End, moved_bytes, other_end, read_end, word_counts, write_end}
use Rattle.wait_rule.specs.PipeSays.{IsOpen, IsSoundEnd, KeepsEnd, end_at, reading, writing}
use Rattle.wait_rule.specs.Stays.{Carries, Change, only, unchanged, with_end}
use Rattle.wait_event.specs.{Ends.FoundNoPlace, Ends.WasSignalled, declared.wait_events.WaitEnd.WaitEnd}
use Rattle.wait_class.specs.Posts.{IsOut}
use Rattle.wait_event.specs.declared.wait_events.WaitEnd.TheVariants as wait_end
use Rattle.var_wait.specs.VarWaits.{shared_in}
use Rattle.wait_pipe.specs.{declared.pieces.PipeEnd.PipeEnd, declared.looks.Look.Look}
use Rattle.wait_pipe.specs.declared.pieces.PipeEnd.TheVariants as pipe_end

-- A task of this Domain is ready for a call: it is awake and idle, with no entry queued.
pub record IsReadyAtPipe (domain : _) (k : Known) : Type 0 where
  pub of : k.domain ≡ domain
  pub up : IsUp k
  pub idle : IsIdle k
  pub out : IsOut k

-- The task has the end, it is not closed, and every cell that was stored or loaded there was passed on.
pub record IsSettled (e : End) : Type 0 where
  pub still : IsOpen e
  pub passed : e.count ≡ length e.cells

-- an end that was just opened: nothing was passed on by it yet
pub record IsPipeOpened (e : End) : Type 0 where
  pub settled : IsSettled e
  pub none : moved_bytes e ≡ []

-- of the ends of other pipes than that of end k the task knows what it knew
abbrev pub OtherPipesStay : ℕ → Known → Known → Type 0
OtherPipesStay k old new = (j : ℕ) → j / PIPE_ENDS ≢ k / PIPE_ENDS → end_at j new ≡ end_at j old

-- Just these bytes were passed on by end k: sent by a write end, and got by a read end.
pub record Moved (k : ℕ) (old new : Known) (text : List ℕ) : Type 0 where
  pub others : OtherPipesStay k old new
  pub settled : IsSettled (end_at k new)
  pub bytes : moved_bytes (end_at k new) ≡ moved_bytes (end_at k old) ++ text

-- What a call on end k changes of a task: it publishes the end's variable, and wakes those who wait for it; it may wait
-- itself, by the entry of slot 0. It owes what it owed then; a close ends the duty of the end too.
abbrev pub piece_change : ℕ → ℕ → ℕ → Change
piece_change k i h = record unchanged {
  but = only i;
  looks = true;
  at = λ _. h;
  publishes = λ d. same d (watch.Var k 0);
}

abbrev pub ends_change : ℕ → ℕ → ℕ → Change
ends_change k i h = record (piece_change k i h) { from = with_end k }

-- A task's list only grew: it added to no tally, raised no signal and claimed no end; and it left no entry at a
-- completion.
pub record LeavesAside (old new : Known) : Type 0 where
  pub aside : GrowsAside old new
  pub off : StaysOff old new

-- A task is awake and idle with no entry queued, as before; no more than this has changed.
pub record LeavesIdle (c : Change) (old new : Known) : Type 0 where
  pub up : IsUp new
  pub idle : IsIdle new
  pub out : IsOut new
  pub carries : Carries c old new
  pub aside : GrowsAside old new
  pub off : StaysOff old new

-- over a call on end k, and over one that closes it
abbrev pub RestsBehindPiece : ℕ → Known → Known → Type 0
RestsBehindPiece k old new = LeavesIdle (piece_change k (index old.view.number 0) new.at) old new

abbrev pub EndsPipe : ℕ → Known → Known → Type 0
EndsPipe k old new = LeavesIdle (ends_change k (index old.view.number 0) new.at) old new

-- It looked at the other end, or waited for it: all else that it knows of end k stays.
pub record WaitsAtPipe (k : ℕ) (old new : Known) : Type 0 where
  pub others : OtherPipesStay k old new
  pub keeps : KeepsEnd (end_at k old) (end_at k new)
  pub rests : RestsBehindPiece k old new

-- what a look at the other end of end k tells: the own count and the one that was seen, modulo `word_counts`, and
-- whether the other end was closed; the last two are what the other end's word shows
pub record HasSeen (k : ℕ) (new : Known) (l : Look) : Type 0 where
  pub own : l.own ≡ (end_at k new).count % word_counts
  pub other : l.other ≡ (end_at k new).seen % word_counts
  pub sound : IsSoundEnd k (end_at k new)
  pub ended : (end_at k new).ended ≡ l.closed
  pub shows : l.other ≡ l.word / 2 % word_counts
  pub closes : l.closed ≡ (l.word % 2 == 1)

-- The other end's word w shows that end open, and no cell for end k, of which the task knows e: none that is free for a
-- write end, and none that was passed on for a read end.
pub record ShowsNoCell (k : ℕ) (e : End) (w : ℕ) : Type 0 where
  pub unended : w % 2 ≡ 0
  pub count : ℕ  -- how many cells the other end had passed on
  pub shown : w / 2 % word_counts ≡ count % word_counts
  pub full : k % PIPE_ENDS ≡ 0 → e.count ≡ count + PIPE_CELLS
  pub empty : k % PIPE_ENDS ≡ 1 → e.count ≡ count

-- the answer of a wait for the other end
abbrev pub end_of_wait : Result ℕ WaitEnd → Result (Unit {0}) PipeEnd
end_of_wait (Ok value) = Ok tt
end_of_wait (Err (wait_end.Signal seen selected)) = Err (pipe_end.Interrupted seen)
end_of_wait (Err (wait_end.Worn head place)) = Err (pipe_end.Worn head place)

-- A signal ended the wait of end k for the other end, whose word was `seen` before it and is so still: it shows that
-- end open, and no cell for this one.
pub record WasPipeInterrupted (j : Known) (k seen : ℕ) : Type 0 where
  pub selected : Bool
  pub queued : Bool
  pub ends : WasSignalled j (watch.Var (other_end k) seen) (shared_in state.Interruptible) seen selected queued
  pub none : ShowsNoCell k (end_at k j) seen

-- No place was left for the entry of the wait of end k for the other end, whose word is still as it was before, and
-- shows that end open, and no cell for this one.
pub record WasFull (j : Known) (k head place : ℕ) : Type 0 where
  pub before : ℕ
  pub ends : FoundNoPlace j (watch.Var (other_end k) before) head place
  pub none : ShowsNoCell k (end_at k j) before

-- why a wait of end k for the other end ended, as the last steps show it; never Broken
abbrev pub IsReadCause : ℕ → Known → PipeEnd → Type 0
IsReadCause k new pipe_end.Broken = ⊥
IsReadCause k new (pipe_end.Interrupted seen) = WasPipeInterrupted new k seen
IsReadCause k new (pipe_end.Worn head place) = WasFull new k head place

-- why nothing was written by end k: Broken says that the read end was seen closed
abbrev pub IsPipeCause : ℕ → Known → PipeEnd → Type 0
IsPipeCause k new pipe_end.Broken = (end_at k new).ended ≡ true
IsPipeCause k new e = IsReadCause k new e

-- The first n bytes of the text were put into pipe p, whose read end the last look showed not closed: 7 into each cell
-- but the last, and not all of them only where that look showed no further cell free.
pub record Put (p : ℕ) (old new : Known) (text : List ℕ) (n : ℕ) : Type 0 where
  pub some : 0 < n
  pub most : n ≤ length text
  pub moved : Moved (write_end p) old new (take n text)
  pub unended : (writing p new).ended ≡ false
  pub cells : (writing p new).count ≡ (writing p old).count + (n + 6) / 7
  pub full : n < length text → (writing p new).count ≡ (writing p new).seen + PIPE_CELLS

pub record PutNone (p : ℕ) (old new : Known) (e : PipeEnd) : Type 0 where
  pub moved : Moved (write_end p) old new []
  pub cause : IsPipeCause (write_end p) new e

-- the write end was seen closed, and all that it sent was taken
pub record IsAtEnd (e : End) : Type 0 where
  pub ended : e.ended ≡ true
  pub all : e.count ≡ e.seen

-- The first n bytes of the buffer came out of pipe p: some, where the last look showed a cell that was not taken
-- before; and all that it showed, where 7 bytes of the buffer are left. None came only at the end of all that was sent.
pub record Got (p : ℕ) (old new : Known) (buf : List ℕ) (n : ℕ) : Type 0 where
  pub most : n ≤ length buf
  pub moved : Moved (read_end p) old new (take n buf)
  pub some : (reading p old).count < (reading p new).seen → 0 < n
  pub none : n ≡ 0 → IsAtEnd (reading p new)
  pub all : n + 7 ≤ length buf → (reading p new).count ≡ (reading p new).seen

pub record GotNone (p : ℕ) (old new : Known) (e : PipeEnd) : Type 0 where
  pub moved : Moved (read_end p) old new []
  pub cause : IsReadCause (read_end p) new e
