-- For tests alone.
-- Tasks of a Domain between two calls.
use Rattle.std.specs.Prelude.{◌≡◌}
use Rattle.atomic_table.specs.Seated.{TableId}
use Rattle.wait_rule.specs.Known.{Known}
use Rattle.wq_head.specs.Readied.{IsReadyToCall, IsUpAndFree}

-- one that may make any call, and one that holds no lock
pub record IsReadyIn (domain : TableId) (k : Known) : Type 0 where
  pub of : k.domain ≡ domain
  pub may : IsReadyToCall k

pub record IsFreeIn (domain : TableId) (k : Known) : Type 0 where
  pub of : k.domain ≡ domain
  pub there : IsUpAndFree k
