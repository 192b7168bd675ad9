use Rattle.std.proofs.Common.{◌∙◌, false, inr}
use Rattle.wait_class.proofs.Locks.{unlock_advances, unlock_agreed, unlock_falls, unlock_locked, unlock_owes, unlock_stops}
use Rattle.wait_class.proofs.Handed.{given_as, given_unlocked}
use Rattle.wait_class.proofs.AwakeSteps.{awake_unlocked}
use Rattle.wait_class.proofs.events.unlock_event.Goals as goal

pub give_back-requires-clause-held : goal.give_back-requires-clause-held
give_back-requires-clause-held g c = unlock_locked g.C.Machine.table c.lawful.ensures c.args.task.now c.args.run.now
    c.args.stage c.requires.here c.requires.at

pub give_back-requires-clause-agreed : goal.give_back-requires-clause-agreed
give_back-requires-clause-agreed g c = unlock_agreed g.C.Machine.table c.lawful.ensures c.args.task.now c.args.run.now
    c.args.stage c.requires.here c.requires.at

pub give_back-requires-clause-permits : goal.give_back-requires-clause-permits
give_back-requires-clause-permits g c = unlock_owes g.C.Machine.table c.lawful.ensures c.args.task.now c.args.run.now
    c.args.stage c.requires.here c.requires.at

pub returns-clause-turned : goal.returns-clause-turned
returns-clause-turned g c = unlock_advances g.C.Machine.table c.lawful.ensures c.args.task.now c.give_back.new.task
    c.args.run.now c.args.stage c.requires.here c.requires.at c.give_back.ensures.given c.next_of.result c.next_of.ensures

pub returns-clause-falls : goal.returns-clause-falls
returns-clause-falls g c = unlock_falls g.C.Machine.table c.lawful.ensures c.args.run.now.of c.args.stage
    c.requires.here c.next_of.result c.next_of.ensures

pub returns-clause-passes : goal.returns-clause-passes
returns-clause-passes g c = inr (unlock_stops g.C.Machine.table c.lawful.ensures c.args.run.now.of c.args.stage
    c.requires.here c.next_of.result c.next_of.ensures)

pub returns-clause-given : goal.returns-clause-given
returns-clause-given g c = given_as c.args.task.now c.give_back.new.task c.args.task.now.at c.put.new.self.head
    (c.put.ensures ∙ c.give_back.ensures.head)
    (given_unlocked c.args.task.now c.give_back.new.task c.args.task.now.at false c.give_back.ensures.given)

pub returns-clause-awake : goal.returns-clause-awake
returns-clause-awake g c = awake_unlocked c.args.task.now c.give_back.new.task c.give_back.ensures.given
