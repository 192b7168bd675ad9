-- For tests alone.
-- Tasks of a Domain between two turns.
use Rattle.std.specs.Prelude.{◌≡◌}
use Rattle.atomic_table.specs.Seated.{TableId}
use Rattle.wait_rule.specs.Known.{Known}
use Rattle.wq_head.specs.Readied.{IsUpAndIdle}
use Rattle.wait_class.specs.{Tables.CallTable, Tables.Lands, declared.stages.Run.Run, declared.stages.Turn.Turn}

-- one whose wait stands where its last turn left it
pub record TurnsIn {C S O : Type 0} (domain : TableId) (t : CallTable C S O) (k : Known) (r : Run C) (last : Turn S O) :
    Type 0 where
  pub of : k.domain ≡ domain
  pub lands : Lands t k r last

-- one that is awake and idle
pub record IsIdleIn (domain : TableId) (k : Known) : Type 0 where
  pub of : k.domain ≡ domain
  pub rest : IsUpAndIdle k
