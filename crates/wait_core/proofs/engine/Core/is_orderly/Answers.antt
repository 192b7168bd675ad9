use Rattle.wait_model.proofs.AccountLaws.OrderlyAccounts.{orderly}
use Rattle.wait_core.proofs.KeptCore.{by_law}
use Rattle.wait_core.proofs.engine.Core.is_orderly.Goals as goal

pub returns : goal.returns
returns c = by_law _ _ _ _ _ c.self.invariant.core orderly _ c.self.view_is
