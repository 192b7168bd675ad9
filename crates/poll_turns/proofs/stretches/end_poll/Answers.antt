use Rattle.std.proofs.Common.{subst}
use Rattle.poll_turns.specs.PollTurns.{EndsPollUntil}
use Rattle.poll_turns.proofs.Ending.{plain_end}
use Rattle.poll_turns.proofs.stretches.end_poll.Goals as goal

pub returns-clause-ends : goal.returns-clause-ends
returns-clause-ends c start x = plain_end c.args.poll start c.args.task.now c.in-Over.answer
    (subst (EndsPollUntil ⊥ c.args.poll start c.args.task.now) c.in-Over.is x.ends)
