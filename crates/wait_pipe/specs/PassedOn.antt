-- To be believed.
-- Cells that were passed on, and the wake behind them of those who wait for that.
use Rattle.std.specs.Prelude.{ℕ, ◌≡◌, ◌<◌, ◌≤◌, ◌+◌, ◌/◌, List, length, take}
use Rattle.wait_model.specs.{declared.layout.TheConstants.PIPE_CELLS, declared.queues.Walked.Walked}
use Rattle.wait_model.specs.declared.watches.Mode.TheVariants as mode
use Rattle.wait_model.specs.declared.watches.Watch.TheVariants as watch
use Rattle.wait_rule.specs.{Known.Known, Pipes.read_end, Pipes.write_end, Queues.IsIdle, Says.IsUp, Stays.Carries}
use Rattle.wait_rule.specs.Stays.{wake_all_change}
use Rattle.wait_rule.specs.PipeSays.{end_at, reading, writing}
use Rattle.wait_pipe.specs.Pieces.{LeavesAside, Moved, OtherPipesStay, RestsBehindPiece}
use Rattle.wait_pipe.specs.Trails.{LoadsCells, StoresCells, WakesAfter}

-- Those who wait for variable v, which the task has published, were woken: a look at its head, and a walk where that
-- found a member. Of its ends the task knows what it knew.
pub record WokeWaiters (v : ℕ) (old new : Known) : Type 0 where
  pub others : OtherPipesStay v old new
  pub own : end_at v new ≡ end_at v old
  pub up : IsUp new
  pub idle : IsIdle new
  pub carries : Carries (wake_all_change (watch.Var v 0) mode.Normal new.at) old new
  pub quiet : LeavesAside old new
  pub walked : Walked
  pub wakes : WakesAfter v old new walked

-- The first n bytes of the text were stored in free cells of pipe p and passed on, with that wake.
pub record Filled (p : ℕ) (old new : Known) (text : List ℕ) (n : ℕ) : Type 0 where
  pub moved : Moved (write_end p) old new (take n text)
  pub ended : (writing p new).ended ≡ (writing p old).ended
  pub cells : (writing p new).count ≡ (writing p old).count + (n + 6) / 7
  pub full : n < length text → (writing p new).count ≡ (writing p new).seen + PIPE_CELLS
  pub rests : RestsBehindPiece (write_end p) old new
  pub stores : StoresCells (write_end p) old new text n

-- The first n bytes of the buffer were loaded from cells of pipe p and given back, with that wake.
pub record Drained (p : ℕ) (old new : Known) (buf : List ℕ) (n : ℕ) : Type 0 where
  pub moved : Moved (read_end p) old new (take n buf)
  pub all : n + 7 ≤ length buf → (reading p new).count ≡ (reading p new).seen
  pub rests : RestsBehindPiece (read_end p) old new
  pub loads : LoadsCells (read_end p) old new buf n
