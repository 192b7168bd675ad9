-- To be believed.
-- What a look at a pipe from its read end tells, with nothing taken, and what it makes.
use Rattle.std.specs.Prelude.{ℕ, ◌≡◌, ◌≤◌, ◌+◌, ◌%◌, ◌==◌, true, false}
use Rattle.wait_model.specs.declared.layout.TheConstants.{PIPE_CELLS}
use Rattle.wait_rule.specs.{Aside.GrowsAside, HandedPermits.StaysOff, Known.Known, Pipes.read_end, Queues.IsIdle}
use Rattle.wait_rule.specs.{Says.IsFree, Says.IsUp, Stays.Carries, Stays.unchanged}
use Rattle.wait_rule.specs.PipeSays.{KeepsEnd, end_at, reading}
use Rattle.wait_class.specs.Posts.{IsOut}
use Rattle.wait_pipe.specs.{declared.peeks.PipeState.PipeState, Trails.LooksOver}
use Rattle.wait_pipe.specs.Pieces.{IsAtEnd, IsSettled, OtherPipesStay, ShowsNoCell}

-- A task only looked at the other end of end k: of that end it may know more, and all else stays. What it owes is carried
-- on; it is idle, and has no entry queued, where that was so before; it adds to no tally, raises no signal and claims no
-- end, and leaves no entry at a completion.
pub record OnlyLooked (k : ℕ) (old new : Known) : Type 0 where
  pub up : IsUp new
  pub free : IsFree new
  pub idle : IsIdle old → IsIdle new
  pub out : IsOut old → IsOut new
  pub others : OtherPipesStay k old new
  pub keeps : KeepsEnd (end_at k old) (end_at k new)
  pub settled : IsSettled (end_at k old) → IsSettled (end_at k new)
  pub carries : Carries unchanged old new
  pub aside : GrowsAside old new
  pub off : StaysOff old new

-- What such a look told of pipe p: how many cells its writer has passed on that the task has not given back, and whether
-- that end is closed. With no cell there, that is the end of all that was sent where it is closed; and where it is open,
-- the word shows just that, as each word does for which a read waits.
pub record TellsOfPipe (p : ℕ) (new : Known) (s : PipeState) : Type 0 where
  pub cells : s.cells + (reading p new).count ≡ (reading p new).seen
  pub room : s.cells ≤ PIPE_CELLS
  pub closed : s.closed ≡ (reading p new).ended
  pub at_end : s.cells ≡ 0 → s.closed ≡ true → IsAtEnd (reading p new)
  pub none : s.cells ≡ 0 → s.closed ≡ false → ShowsNoCell (read_end p) (reading p new) s.word

-- It made one load of the other end's word, and nothing more; what it told is what that word shows.
pub record PeeksRead (k : ℕ) (old new : Known) (s : PipeState) : Type 0 where
  pub looks : LooksOver k old new
  pub word : s.word ≡ looks.word
  pub cells : s.cells + (end_at k new).count ≡ (end_at k new).seen
  pub room : s.cells ≤ PIPE_CELLS
  pub closed : s.closed ≡ (looks.word % 2 == 1)
