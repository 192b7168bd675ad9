use Rattle.completion_cell.proofs.AwaitTakes.{quit_owes, quit_turned}
use Rattle.std.proofs.Common.{◌∙◌, false}
use Rattle.wait_class.proofs.{Handed.given_as, Handed.given_unlocked, AwakeSteps.awake_unlocked}
use Rattle.completion_cell.proofs.awaits.quit_event.Goals as goal

pub give_back-requires-clause-permits : goal.give_back-requires-clause-permits
give_back-requires-clause-permits c = quit_owes c.requires.may.0 c.args.task.now c.args.run.now c.args.found
    c.requires.may.1

pub returns-clause-turned : goal.returns-clause-turned
returns-clause-turned c start q = quit_turned start c.args.task.now c.args.run.now c.args.found q
    c.give_back.new.task c.give_back.ensures.given

pub returns-clause-given : goal.returns-clause-given
returns-clause-given c = given_as c.args.task.now c.give_back.new.task c.args.task.now.at c.put.new.self.head
    (c.put.ensures ∙ c.give_back.ensures.head)
    (given_unlocked c.args.task.now c.give_back.new.task c.args.task.now.at false c.give_back.ensures.given)

pub returns-clause-awake : goal.returns-clause-awake
returns-clause-awake c = awake_unlocked c.args.task.now c.give_back.new.task c.give_back.ensures.given
