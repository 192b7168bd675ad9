use Rattle.wq_head.proofs.RousedTasks.{rousing_none, rousing_on}
use Rattle.completion_cell.proofs.cell_turns.hold.Goals as goal

pub returns-in-IsDone-clause-rouses : goal.returns-in-IsDone-clause-rouses
returns-in-IsDone-clause-rouses c =
    let k = c.args.task.now in
    let r = c.args.rousing.now in
    rousing_on k k c.is_done_hold.new.task r c.is_done_hold.ensures.rouses (rousing_none k r c.requires.none)

pub returns-in-Reinit-clause-rouses : goal.returns-in-Reinit-clause-rouses
returns-in-Reinit-clause-rouses c =
    let k = c.args.task.now in
    let r = c.args.rousing.now in
    rousing_on k k c.reinit_hold.new.task r c.reinit_hold.ensures.rouses (rousing_none k r c.requires.none)

pub returns-in-TryWait-clause-rouses : goal.returns-in-TryWait-clause-rouses
returns-in-TryWait-clause-rouses c =
    let k = c.args.task.now in
    let r = c.args.rousing.now in
    rousing_on k k c.try_wait_hold.new.task r c.try_wait_hold.ensures.rouses (rousing_none k r c.requires.none)
