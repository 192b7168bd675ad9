use Rattle.wait_rule.specs.{HandedPermits.OwesNoPermit, Known.Known}
use Rattle.completion_cell.proofs.AwaitTakes.{ended_may, ended_owes, ended_turned, taken_turned, stored_awake}
use Rattle.completion_cell.proofs.AwaitTakes.{stored_count, stays_count}
use Rattle.std.proofs.Common.{◌∙◌, ◌-◌, false, subst}
use Rattle.wait_model.specs.declared.layout.TheConstants.{HEADS}
use Rattle.wait_class.specs.{Handing.LastGiven, Tables.SleepsNot}
use Rattle.wait_class.proofs.{Handed.given_as, Handed.given_unlocked, AwakeSteps.awake_unlocked}
use Rattle.completion_cell.proofs.awaits.take_event.Goals as goal

pub returns-then-take_one-clause-turned : goal.returns-then-take_one-clause-turned
returns-then-take_one-clause-turned c start t = taken_turned start c.args.task.now c.args.run.now c.args.found t
    c.take_one.new.task c.take_one.result c.take_one.ensures.took c.if-take_one.true c.take_one.ensures.stores

pub give_back-requires-clause-permits : goal.give_back-requires-clause-permits
give_back-requires-clause-permits c =
    let m = c.requires.may in
    ended_may m.0 c.args.task.now c.args.run.now c.args.found m.1 OwesNoPermit c.take_one.new.task c.take_one.result
    c.if-take_one.false c.take_one.ensures.stores
    (ended_owes m.0 c.args.task.now c.args.run.now c.args.found m.1 c.take_one.result c.take_one.ensures.took
    c.if-take_one.false)

pub returns-clause-turned : goal.returns-clause-turned
returns-clause-turned c start t = ended_turned start c.args.task.now c.args.run.now c.args.found t
    c.take_one.new.task c.give_back.new.task c.take_one.result c.take_one.ensures.took c.if-take_one.false
    c.take_one.ensures.stores c.give_back.ensures.given

pub returns-then-take_one-clause-given : goal.returns-then-take_one-clause-given
returns-then-take_one-clause-given c = given_as c.args.task.now c.take_one.new.task HEADS c.args.passing.now.head
    c.requires.passes (stored_count c.args.task.now c.take_one.new.task c.args.run.now.of.cell (c.args.run.now.of.count - 1) c.take_one.result c.if-take_one.true
    c.take_one.ensures.stores)

pub returns-clause-given : goal.returns-clause-given
returns-clause-given c = given_as c.args.task.now c.give_back.new.task c.take_one.new.task.at c.put.new.self.head
    (c.put.ensures ∙ c.give_back.ensures.head)
    (subst (λ (k : Known). LastGiven k c.give_back.new.task c.take_one.new.task.at)
    (stays_count c.args.task.now c.take_one.new.task c.args.run.now.of.cell (c.args.run.now.of.count - 1) c.take_one.result c.if-take_one.false c.take_one.ensures.stores)
    (given_unlocked c.take_one.new.task c.give_back.new.task c.take_one.new.task.at false
    c.give_back.ensures.given))

pub returns-then-take_one-clause-awake : goal.returns-then-take_one-clause-awake
returns-then-take_one-clause-awake c = stored_awake c.args.task.now c.take_one.new.task c.args.run.now.of.cell
    (c.args.run.now.of.count - 1) c.take_one.result c.if-take_one.true c.take_one.ensures.stores

pub returns-clause-awake : goal.returns-clause-awake
returns-clause-awake c = subst (λ (k : Known). SleepsNot k c.give_back.new.task)
    (stays_count c.args.task.now c.take_one.new.task c.args.run.now.of.cell (c.args.run.now.of.count - 1)
    c.take_one.result c.if-take_one.false c.take_one.ensures.stores)
    (awake_unlocked c.take_one.new.task c.give_back.new.task c.give_back.ensures.given)
