use Rattle.completion_cell.proofs.AwaitTakes.{quit_off, take_off}
use Rattle.wait_class.proofs.{Handed.given_on, AwakeSteps.sleeps_not_on}
use Rattle.completion_cell.proofs.awaits.off_event.Goals as goal

pub returns-in-true-false-clause-turned : goal.returns-in-true-false-clause-turned
returns-in-true-false-clause-turned c = quit_off c.args.task.now c.pare-found.new.task c.quit_event.new.task
    c.args.run.now c.args.stopped c.quit_event.result c.in-true-false.is-0 c.in-true-false.ensures.pares
    c.quit_event.ensures.turned

pub returns-in-false-false-clause-turned : goal.returns-in-false-false-clause-turned
returns-in-false-false-clause-turned c = take_off c.args.task.now c.pare-found.new.task c.take_event.new.task
    c.args.run.now c.args.stopped c.take_event.result c.in-false-false.is-0 c.in-false-false.ensures.pares
    c.take_event.ensures.turned

pub returns-in-true-false-clause-given : goal.returns-in-true-false-clause-given
returns-in-true-false-clause-given c = given_on c.args.task.now c.pare-found.new.task c.quit_event.new.task
    c.quit_event.new.passing.head c.pare-found.ensures.given c.quit_event.ensures.given

pub returns-in-false-false-clause-given : goal.returns-in-false-false-clause-given
returns-in-false-false-clause-given c = given_on c.args.task.now c.pare-found.new.task c.take_event.new.task
    c.take_event.new.passing.head c.pare-found.ensures.given c.take_event.ensures.given

pub returns-in-true-false-clause-awake : goal.returns-in-true-false-clause-awake
returns-in-true-false-clause-awake c = sleeps_not_on c.args.task.now c.pare-found.new.task c.quit_event.new.task
    c.pare-found.ensures.awake c.quit_event.ensures.awake

pub returns-in-false-false-clause-awake : goal.returns-in-false-false-clause-awake
returns-in-false-false-clause-awake c = sleeps_not_on c.args.task.now c.pare-found.new.task c.take_event.new.task
    c.pare-found.ensures.awake c.take_event.ensures.awake
