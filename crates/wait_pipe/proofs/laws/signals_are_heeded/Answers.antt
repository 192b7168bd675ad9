use Rattle.wait_pipe.proofs.PipeWords.{turns_heed}
use Rattle.wait_pipe.proofs.laws.signals_are_heeded.Goals as goal

pub returns : goal.returns
returns c = turns_heed
