use Rattle.wq_head.proofs.{OneMoreLook.looks_on, RousedTasks.none_looked, RousedTasks.rousing_on}
use Rattle.wq_head.proofs.walks.walk_several.Goals as goal

pub walk_queue-requires-clause-starting : goal.walk_queue-requires-clause-starting
walk_queue-requires-clause-starting c =
    let begun = c.requires.starting in
    (begun.0, begun.1, looks_on begun.0 c.args.task.now c.members.new.task begun.2 c.members.ensures.looks)

pub returns-clause-walks : goal.returns-clause-walks
returns-clause-walks c start is looks = c.walk_queue.ensures.walks start is
    (looks_on start c.args.task.now c.members.new.task looks c.members.ensures.looks)

pub returns-clause-rouses : goal.returns-clause-rouses
returns-clause-rouses c start told = c.walk_queue.ensures.rouses start
    (rousing_on start c.args.task.now c.members.new.task c.args.rousing.now
    (none_looked c.args.task.now c.members.new.task c.members.ensures.looks) told)
