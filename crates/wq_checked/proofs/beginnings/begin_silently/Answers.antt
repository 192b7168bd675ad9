use Rattle.wq_checked.proofs.Silent.{begins_on}
use Rattle.wq_checked.proofs.beginnings.begin_silently.Goals as goal

pub returns-clause-begun : goal.returns-clause-begun
returns-clause-begun c = begins_on c.args.call c.args.task.now c.args.kept.now c.first_of.result c.requires.silent
    c.requires.long c.first_of.ensures.begun
