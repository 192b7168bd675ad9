use Rattle.wait_event.proofs.Words.{waits_heed}
use Rattle.wait_event.proofs.laws.signals_are_heeded.Goals as goal

pub returns : goal.returns
returns c = waits_heed
