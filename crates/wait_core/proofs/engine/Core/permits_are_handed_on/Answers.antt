use Rattle.wait_model.proofs.PermitLaws.PermitRuns.{every_run_hands_on}
use Rattle.wait_core.proofs.KeptCore.{by_law}
use Rattle.wait_core.proofs.engine.Core.permits_are_handed_on.Goals as goal

pub returns : goal.returns
returns c = by_law _ _ _ _ _ c.self.invariant.core every_run_hands_on _ c.self.view_is
