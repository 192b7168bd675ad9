use Rattle.page_lock.proofs.Heeding.{page_locks_heed}
use Rattle.page_lock.proofs.laws.signals_are_heeded.Goals as goal

pub returns : goal.returns
returns c = page_locks_heed
