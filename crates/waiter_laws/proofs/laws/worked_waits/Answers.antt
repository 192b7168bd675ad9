use Rattle.waiter_laws.proofs.WorkedWaits as worked
use Rattle.waiter_laws.proofs.laws.worked_waits.Goals as goal

pub returns : goal.returns
returns c = worked.worked_waits
