use Rattle.wait_model.proofs.AccountLaws.DoneStores.{no_run_miscounts}
use Rattle.wait_core.proofs.KeptCore.{by_law}
use Rattle.wait_core.proofs.engine.Core.counts_are_balanced.Goals as goal

pub returns : goal.returns
returns c = by_law _ _ _ _ _ c.self.invariant.core no_run_miscounts _ c.self.view_is
