use Rattle.wq_head.proofs.ReadyTasks.{peeked_rests}
use Rattle.head_tests.proofs.heads.sleepers.sees_queued.Goals as goal

pub returns-clause-rests : goal.returns-clause-rests
returns-clause-rests c = peeked_rests c.args.task.now c.entry_load.new.task _ _ c.requires.rests
    c.entry_load.ensures.step
