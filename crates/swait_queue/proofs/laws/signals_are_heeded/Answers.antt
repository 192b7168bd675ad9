use Rattle.swait_queue.proofs.SimpleWords.{simple_waits_heed}
use Rattle.swait_queue.proofs.laws.signals_are_heeded.Goals as goal

pub returns : goal.returns
returns c = simple_waits_heed
