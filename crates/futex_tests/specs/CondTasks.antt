-- For tests alone.
-- Tasks of the tests that wait for a condition variable by stretches: what they know between two turns.
use Rattle.std.specs.Prelude.{false, Option, Some, None}
use Rattle.wait_model.specs.declared.tasks.SleepState.TheVariants as states
use Rattle.wait_rule.specs.{Known.Known, Says.IsClean}
use Rattle.futex_table.specs.declared.cond_stretches.CondWait.{CondWait}
use Rattle.futex_table.specs.CondStretches.{CondTurn, IsCondWaiting}

-- the wait of the tests
abbrev pub tested_cond : CondWait
tested_cond = record { cond = 7; lock = 6; state = states.Uninterruptible }

-- such a wait that a clean task began, and that nobody has asked to leave
pub record IsTestedCond (k : Known) (u : CondTurn) : Type 0 where
  pub start : Known
  pub clean : IsClean start
  pub waits : IsCondWaiting false tested_cond start k u

-- a task of a monitor is outside, or in a wait
abbrev pub IsInMonitor : Known → Option CondTurn → Type 0
IsInMonitor k None = IsClean k
IsInMonitor k (Some u) = IsTestedCond k u
