use Rattle.var_wait.proofs.VarWords.{var_waits_heed}
use Rattle.var_wait.proofs.laws.signals_are_heeded.Goals as goal

pub returns : goal.returns
returns c = var_waits_heed
