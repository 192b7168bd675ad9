use Rattle.wait_script.proofs.WordCounts.{few_step, many_step}
use Rattle.wait_script.proofs.line.step.Goals as goal

pub returns-in_default : goal.returns-in_default
returns-in_default c = few_step c.args.version c.args.words.now c.in_default.len_below

pub returns-in_default-2 : goal.returns-in_default-2
returns-in_default-2 c = many_step c.args.version c.args.words.now c.in_default.len_at_least
