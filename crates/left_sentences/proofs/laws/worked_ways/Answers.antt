use Rattle.left_sentences.proofs.WorkedWays as worked
use Rattle.left_sentences.proofs.laws.worked_ways.Goals as goal

pub returns : goal.returns
returns c = worked.worked_ways
