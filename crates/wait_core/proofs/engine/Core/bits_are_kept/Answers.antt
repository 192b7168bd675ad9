use Rattle.wait_model.proofs.{AccountLaws.LentPages.no_run_leaves_page, BitLaws.BitKeepers.every_run_keeps_bits}
use Rattle.wait_core.proofs.KeptCore.{by_law}
use Rattle.wait_core.proofs.engine.Core.bits_are_kept.Goals as goal

pub returns-clause-kept : goal.returns-clause-kept
returns-clause-kept c = by_law _ _ _ _ _ c.self.invariant.core every_run_keeps_bits _ c.self.view_is

pub returns-clause-lent : goal.returns-clause-lent
returns-clause-lent c = by_law _ _ _ _ _ c.self.invariant.core no_run_leaves_page _ c.self.view_is
