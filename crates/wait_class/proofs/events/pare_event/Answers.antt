use Rattle.std.proofs.Common.{◌∙◌, sym, inr, refl}
use Rattle.wait_model.specs.declared.layout.TheConstants.{HEADS}
use Rattle.wait_class.proofs.Entries.{gives_falls, not_there, pare_holds, pare_law, pare_may, pare_owes, pare_stops}
use Rattle.wait_class.proofs.Entries.{takes_advances, takes_falls}
use Rattle.wait_model.specs.declared.steps.Step.TheVariants as step
use Rattle.wait_rule.specs.Queues.{index}
use Rattle.wait_class.proofs.Handed.{given_as, given_on, given_back, given_seen, given_stored}
use Rattle.wait_class.proofs.AwakeSteps.{awake_back, awake_seen, awake_stored, sleeps_not_on}
use Rattle.wait_class.proofs.events.pare_event.Goals as goal

pub remove-requires-clause-held : goal.remove-requires-clause-held
remove-requires-clause-held g c = pare_holds g.C.Machine.table c.lawful.ensures c.args.task.now
    c.own_entry-entry.new.task c.args.run.now c.args.stage c.requires.here c.requires.at c.own_entry-entry.result
    c.own_entry-entry.ensures

pub remove-requires-clause-may : goal.remove-requires-clause-may
remove-requires-clause-may g c = pare_may g.C.Machine.table c.lawful.ensures c.args.task.now c.own_entry-entry.new.task
    c.args.run.now c.args.stage c.requires.here c.requires.at c.own_entry-entry.result c.own_entry-entry.ensures
    (sym c.is_some.ensures ∙ c.if-is_some.true) c.number-me.result c.number-me.ensures.number

pub returns-then-is_some-clause-turned : goal.returns-then-is_some-clause-turned
returns-then-is_some-clause-turned g c = takes_advances g.C.Machine.table c.lawful.ensures c.args.task.now
    c.own_entry-entry.new.task c.remove.new.task c.args.run.now c.args.stage c.requires.here c.requires.at
    c.own_entry-entry.result c.own_entry-entry.ensures c.is_some.result c.is_some.ensures c.if-is_some.true
    c.number-me.result c.number-me.ensures.number c.remove.ensures.removed c.remove.ensures.held c.found_to.result
    c.found_to.ensures

pub returns-then-is_some-clause-falls : goal.returns-then-is_some-clause-falls
returns-then-is_some-clause-falls g c = takes_falls g.C.Machine.table c.lawful.ensures c.args.run.now.of c.args.stage
    c.requires.here c.own_entry-entry.result c.is_some.result c.is_some.ensures c.if-is_some.true c.found_to.result
    c.found_to.ensures

pub give_back-requires-clause-held : goal.give_back-requires-clause-held
give_back-requires-clause-held g c = (pare_holds g.C.Machine.table c.lawful.ensures c.args.task.now
    c.own_entry-entry.new.task c.args.run.now c.args.stage c.requires.here c.requires.at c.own_entry-entry.result
    c.own_entry-entry.ensures).locked

pub give_back-requires-clause-agreed : goal.give_back-requires-clause-agreed
give_back-requires-clause-agreed g c = (pare_holds g.C.Machine.table c.lawful.ensures c.args.task.now
    c.own_entry-entry.new.task c.args.run.now c.args.stage c.requires.here c.requires.at c.own_entry-entry.result
    c.own_entry-entry.ensures).agreed

pub give_back-requires-clause-permits : goal.give_back-requires-clause-permits
give_back-requires-clause-permits g c = pare_owes g.C.Machine.table c.lawful.ensures c.args.task.now
    c.own_entry-entry.new.task c.args.run.now c.args.stage c.requires.here c.requires.at c.own_entry-entry.result
    c.own_entry-entry.ensures

pub returns-clause-turned : goal.returns-clause-turned
returns-clause-turned g c =
    let l = pare_law g.C.Machine.table c.lawful.ensures c.args.run.now.of c.args.stage c.requires.here in
    not_there g.C.Machine.table c.lawful.ensures c.args.task.now c.own_entry-entry.new.task c.give_back.new.task
    c.args.run.now c.args.stage l.held l.opens l.gives c.requires.at c.own_entry-entry.result c.own_entry-entry.ensures
    c.is_some.result c.is_some.ensures c.if-is_some.false c.give_back.ensures.given c.found_to-2.result
    c.found_to-2.ensures

pub returns-clause-falls : goal.returns-clause-falls
returns-clause-falls g c = gives_falls g.C.Machine.table c.lawful.ensures c.args.run.now.of c.args.stage
    c.requires.here c.found_to-2.result c.found_to-2.ensures

pub returns-clause-passes : goal.returns-clause-passes
returns-clause-passes g c = inr (pare_stops g.C.Machine.table c.lawful.ensures c.args.run.now.of c.args.stage
    c.requires.here c.found_to-2.result c.found_to-2.ensures)

pub returns-then-is_some-clause-given : goal.returns-then-is_some-clause-given
returns-then-is_some-clause-given g c = given_as c.args.task.now c.remove.new.task HEADS c.args.passing.now.head
    c.requires.passes (given_on c.args.task.now c.own_entry-entry.new.task c.remove.new.task HEADS
    (given_seen c.args.task.now c.own_entry-entry.new.task c.own_entry-entry.result c.own_entry-entry.ensures)
    (given_stored c.own_entry-entry.new.task c.remove.new.task (step.Unqueue (index c.number-me.result 0))
    c.remove.ensures.removed.is))

pub returns-clause-given : goal.returns-clause-given
returns-clause-given g c = given_back c.args.task.now c.own_entry-entry.new.task c.give_back.new.task
    c.own_entry-entry.result c.own_entry-entry.ensures c.put.new.self.head (c.put.ensures ∙ c.give_back.ensures.head)
    c.give_back.ensures.given

pub returns-then-is_some-clause-awake : goal.returns-then-is_some-clause-awake
returns-then-is_some-clause-awake g c = sleeps_not_on c.args.task.now c.own_entry-entry.new.task c.remove.new.task
    (awake_seen c.args.task.now c.own_entry-entry.new.task c.own_entry-entry.result c.own_entry-entry.ensures)
    (awake_stored c.own_entry-entry.new.task c.remove.new.task (step.Unqueue (index c.number-me.result 0)) c.remove.ensures.removed.is refl)

pub returns-clause-awake : goal.returns-clause-awake
returns-clause-awake g c = awake_back c.args.task.now c.own_entry-entry.new.task c.give_back.new.task c.own_entry-entry.result
    c.own_entry-entry.ensures c.give_back.ensures.given
