use Rattle.completion_cell.proofs.AwaitTakes.{quit_here, take_here}
use Rattle.completion_cell.proofs.awaits.AwaitCallMachine.own.Goals as goal

pub returns-in-LeaveUnlock-clause-turned : goal.returns-in-LeaveUnlock-clause-turned
returns-in-LeaveUnlock-clause-turned c = quit_here c.args.task.now c.quit_event.new.task c.args.run.now c.args.stage
    c.quit_event.result c.in-LeaveUnlock.is c.requires.at c.quit_event.ensures.turned

pub returns-in-TakeStore-clause-turned : goal.returns-in-TakeStore-clause-turned
returns-in-TakeStore-clause-turned c = take_here c.args.task.now c.take_event.new.task c.args.run.now c.args.stage
    c.take_event.result c.in-TakeStore.is c.requires.at c.take_event.ensures.turned
