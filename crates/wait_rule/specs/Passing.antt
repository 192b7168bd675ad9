-- For tests alone.
-- A task that passes cells by an end of a pipe, one at a time.
use Rattle.std.specs.Prelude.{ℕ, ◌≡◌, ◌≢◌, length}
use Rattle.atomic_table.specs.Seated.{TableId}
use Rattle.wait_rule.specs.{Known.Known, PipeSays.IsOpen, PipeSays.end_at, Queues.IsIdle, Says.IsUp}

-- it is an idle task of this Domain
pub record IsReady (domain : TableId) (k : Known) : Type 0 where
  pub of : k.domain ≡ domain
  pub up : IsUp k
  pub idle : IsIdle k

-- which has end e and has not closed it, and has passed on all of its n cells
pub record HasPassedCells (domain : TableId) (e n : ℕ) (k : Known) : Type 0 where
  pub ready : IsReady domain k
  pub still : IsOpen (end_at e k)
  pub cells : length (end_at e k).cells ≡ n
  pub count : (end_at e k).count ≡ n

-- of other ends it knows what it knew
abbrev pub OthersStay : ℕ → Known → Known → Type 0
OthersStay e old new = (j : ℕ) → j ≢ e → end_at j new ≡ end_at j old
