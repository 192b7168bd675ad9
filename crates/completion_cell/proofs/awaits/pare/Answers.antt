use Rattle.std.proofs.Common.{◌∙◌, sym, refl}
use Rattle.completion_cell.proofs.AwaitTakes.{off_may, pares_none, pares_some}
use Rattle.wait_model.specs.declared.layout.TheConstants.{HEADS}
use Rattle.wait_model.specs.declared.steps.Step.TheVariants as step
use Rattle.wait_rule.specs.Queues.{index}
use Rattle.wait_class.proofs.Handed.{given_on, given_seen, given_stored}
use Rattle.wait_class.proofs.AwakeSteps.{awake_seen, awake_stored, sleeps_not_on}
use Rattle.completion_cell.proofs.awaits.pare.Goals as goal

pub remove-requires-clause-may : goal.remove-requires-clause-may
remove-requires-clause-may c = off_may c.args.task.now c.own_entry-entry.new.task c.args.run.now c.args.stopped
    c.requires.at c.own_entry-entry.result c.own_entry-entry.ensures (sym c.is_some.ensures ∙ c.if-is_some.true)
    c.number-me.result c.number-me.ensures.number

pub returns-then-is_some-clause-pares : goal.returns-then-is_some-clause-pares
returns-then-is_some-clause-pares c = pares_some c.args.task.now c.own_entry-entry.new.task c.args.run.now c.args.stopped
    c.requires.at c.own_entry-entry.result c.own_entry-entry.ensures c.remove.new.task c.number-me.result
    c.number-me.ensures.number c.remove.ensures.removed c.remove.ensures.held
    (sym c.is_some.ensures ∙ c.if-is_some.true)

pub returns-clause-pares : goal.returns-clause-pares
returns-clause-pares c = pares_none c.args.task.now c.own_entry-entry.new.task c.args.run.now c.args.stopped
    c.requires.at c.own_entry-entry.result c.own_entry-entry.ensures (sym c.is_some.ensures ∙ c.if-is_some.false)

pub returns-then-is_some-clause-given : goal.returns-then-is_some-clause-given
returns-then-is_some-clause-given c = given_on c.args.task.now c.own_entry-entry.new.task c.remove.new.task HEADS
    (given_seen c.args.task.now c.own_entry-entry.new.task c.own_entry-entry.result c.own_entry-entry.ensures)
    (given_stored c.own_entry-entry.new.task c.remove.new.task (step.Unqueue (index c.number-me.result 0))
    c.remove.ensures.removed.is)

pub returns-clause-given : goal.returns-clause-given
returns-clause-given c = given_seen c.args.task.now c.own_entry-entry.new.task c.own_entry-entry.result
    c.own_entry-entry.ensures

pub returns-then-is_some-clause-awake : goal.returns-then-is_some-clause-awake
returns-then-is_some-clause-awake c = sleeps_not_on c.args.task.now c.own_entry-entry.new.task c.remove.new.task
    (awake_seen c.args.task.now c.own_entry-entry.new.task c.own_entry-entry.result c.own_entry-entry.ensures)
    (awake_stored c.own_entry-entry.new.task c.remove.new.task (step.Unqueue (index c.number-me.result 0))
    c.remove.ensures.removed.is refl)

pub returns-clause-awake : goal.returns-clause-awake
returns-clause-awake c = awake_seen c.args.task.now c.own_entry-entry.new.task c.own_entry-entry.result
    c.own_entry-entry.ensures
