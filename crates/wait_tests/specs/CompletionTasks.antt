-- For tests alone.
-- Tasks of tests: what they know between two turns.
use Rattle.wait_rule.specs.{LeftEntries.HasLeftNone, Known.Known, Says.IsFree, Says.IsUp}

-- one who completes, between two calls
pub record MayComplete (k : Known) : Type 0 where
  pub up : IsUp k
  pub free : IsFree k
  pub off : HasLeftNone k
