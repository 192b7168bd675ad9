use Rattle.wq_head.proofs.AddedEntries.{removed}
use Rattle.wq_head.proofs.adds.remove.Goals as goal

pub returns-clause-removed : goal.returns-clause-removed
returns-clause-removed c = removed c.args.task.now c.unqueue_member.new.task c.args.who c.args.slot
    c.unqueue_member.ensures.step
