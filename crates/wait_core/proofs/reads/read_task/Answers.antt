use Rattle.std.proofs.Common.{◌∙◌, arith}
use Rattle.wait_core.proofs.FoundMembers.{task_shown_is}
use Rattle.wait_core.proofs.reads.read_task.Goals as goal

pub returns : goal.returns
returns c = λ s n shown sound. c.task_of.ensures
    ∙ rw c.task_at.ensures (task_shown_is c.args.words.now s n shown sound c.args.who (omega arith))
