use Rattle.std.proofs.Common.{◌-◌}
use Rattle.completion_cell.proofs.AwaitTakes.{store_awake, store_gives}
use Rattle.count_sem.proofs.DownTakes.{take_turned}
use Rattle.count_sem.proofs.downs.take_event.Goals as goal

pub returns-clause-turned : goal.returns-clause-turned
returns-clause-turned c = take_turned c.args.task.now c.args.run.now c.requires.at c.lower_one.new.task
    c.lower_one.ensures

pub returns-clause-given : goal.returns-clause-given
returns-clause-given c = store_gives c.args.task.now c.lower_one.new.task c.args.run.now.of.cell
    (c.args.run.now.of.count - 1) c.lower_one.ensures

pub returns-clause-awake : goal.returns-clause-awake
returns-clause-awake c = store_awake c.args.task.now c.lower_one.new.task c.args.run.now.of.cell
    (c.args.run.now.of.count - 1) c.lower_one.ensures
