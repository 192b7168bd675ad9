use Rattle.wait_model.proofs.{RunLaws.EveryRun.no_lost_wake, RunLaws.EveryRun.no_lost_flag}
use Rattle.wait_model.proofs.{HistoryLaws.NoLostWake.no_run_loses_wake, WaitLaws.Sleepers.no_run_loses_waiter}
use Rattle.wait_core.proofs.KeptCore.{by_law}
use Rattle.wait_core.proofs.engine.Core.no_lost_wake.Goals as goal

pub returns-clause-wake : goal.returns-clause-wake
returns-clause-wake c = by_law _ _ _ _ _ c.self.invariant.core no_lost_wake _ c.self.view_is

pub returns-clause-flag : goal.returns-clause-flag
returns-clause-flag c = by_law _ _ _ _ _ c.self.invariant.core no_lost_flag _ c.self.view_is

pub returns-clause-told : goal.returns-clause-told
returns-clause-told c = by_law _ _ _ _ _ c.self.invariant.core no_run_loses_wake _ c.self.view_is

pub returns-clause-waiters : goal.returns-clause-waiters
returns-clause-waiters c = by_law _ _ _ _ _ c.self.invariant.core no_run_loses_waiter _ c.self.view_is
