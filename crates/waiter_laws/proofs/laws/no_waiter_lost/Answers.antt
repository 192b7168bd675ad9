use Rattle.waiter_laws.proofs.Sleepers.{sleepers_are_kept}
use Rattle.waiter_laws.proofs.laws.no_waiter_lost.Goals as goal

pub returns : goal.returns
returns c = sleepers_are_kept
