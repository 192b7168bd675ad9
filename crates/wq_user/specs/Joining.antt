-- To be believed.
-- A task that takes another one in.
use Rattle.std.specs.Prelude.{◌≡◌}
use Rattle.atomic_table.specs.Seated.{TableId}
use Rattle.wait_rule.specs.Known.{Known}
use Rattle.wait_rule.specs.Says.{IsUp}

-- a task of this Domain that is awake
pub record IsUpIn (domain : TableId) (k : Known) : Type 0 where
  pub of : k.domain ≡ domain
  pub up : IsUp k
