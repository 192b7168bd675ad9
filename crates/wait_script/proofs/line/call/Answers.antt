use Rattle.wait_script.proofs.WordCounts.{few_call}
use Rattle.wait_script.proofs.line.call.Goals as goal

pub returns-in_default : goal.returns-in_default
returns-in_default c = few_call c.args.version c.args.words.now c.in_default.len_below
