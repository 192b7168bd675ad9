use Rattle.wq_head.proofs.LockWaits.{unlocked}
use Rattle.wq_head.proofs.locks.unlock.Goals as goal

pub returns-clause-unlocked : goal.returns-clause-unlocked
returns-clause-unlocked g c = unlocked c.args.task.now c.give_back.new.task c.args.spent c.give_back.ensures.given
