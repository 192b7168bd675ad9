-- For tests alone.
-- Tasks of tests, between two calls.
use Rattle.std.specs.Prelude.{◌≡◌, ℕ, ◌≤◌, Bool, IfOk, MatchBool, Result}
use Rattle.atomic_table.specs.Seated.{TableId}
use Rattle.wait_rule.specs.{Known.Known, Pipes.read_end, Pipes.write_end, PipeSays.end_at, Queues.IsIdle}
use Rattle.wait_rule.specs.Stays.{with_end}
use Rattle.wait_rule.specs.Says.{IsUp, OwesBut, RestsIn, no_excuse}
use Rattle.wait_class.specs.Posts.{IsOut}
use Rattle.wait_leave.specs.declared.exits.Until.{Until}
use Rattle.wait_leave.specs.declared.exits.Until.TheVariants as until
use Rattle.wait_pipe.specs.{Pieces.IsSettled, declared.pieces.PipeEnd.PipeEnd}

-- a task of this domain has end k, and passed on every cell there; but for that end it owes nothing
pub record HasEnd (domain : TableId) (k : ℕ) (x : Known) : Type 0 where
  pub of : x.domain ≡ domain
  pub up : IsUp x
  pub idle : IsIdle x
  pub out : IsOut x
  pub settled : IsSettled (end_at k x)
  pub owes : OwesBut (with_end k no_excuse) x

abbrev pub IsWriter : TableId → ℕ → Known → Type 0
IsWriter d p x = HasEnd d (write_end p) x

abbrev pub IsReader : TableId → ℕ → Known → Type 0
IsReader d p x = HasEnd d (read_end p) x

-- it has that end where this is open, and else owes nothing
abbrev pub MayWrite : TableId → ℕ → Known → Bool → Type 0
MayWrite d p x has = MatchBool has (IsWriter d p x) (RestsIn d x)

abbrev pub MayRead : TableId → ℕ → Known → Bool → Type 0
MayRead d p x has = MatchBool has (IsReader d p x) (RestsIn d x)

-- as many bytes at most as are told, where the call was not left
abbrev pub IsAtMost : ℕ → Until (Result ℕ PipeEnd) → Type 0
IsAtMost most (until.Over r) = IfOk r (λ n. n ≤ most)
IsAtMost most (until.Left seen) = Unit {0}
