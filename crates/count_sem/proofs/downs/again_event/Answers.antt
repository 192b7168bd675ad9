use Rattle.std.proofs.Common.{refl}
use Rattle.wait_class.proofs.Handed.{given_on, given_seen, given_step}
use Rattle.wait_model.specs.declared.layout.TheConstants.{HEADS}
use Rattle.wait_model.specs.declared.steps.Step.TheVariants as step
use Rattle.wait_model.specs.declared.watches.Watch.TheVariants as watch
use Rattle.count_sem.proofs.DownCounts.{again_turned}
use Rattle.wait_class.proofs.AwakeSteps.{awake_seen, awake_step, sleeps_not_on}
use Rattle.count_sem.proofs.downs.again_event.Goals as goal

pub returns-clause-turned : goal.returns-clause-turned
returns-clause-turned c = again_turned c.args.task.now c.own_entry-entry.new.task c.args.run.now
    c.own_entry-entry.result c.own_entry-entry.ensures c.requires.at c.done_load-run.new.task c.done_load-run.result
    c.done_load-run.ensures.step c.done_load-run.ensures.finds c.done_load-run.ensures.carries c.is_some.result
    c.is_some.ensures c.again_to.result c.again_to.ensures

pub returns-clause-given : goal.returns-clause-given
returns-clause-given c = given_on c.args.task.now c.own_entry-entry.new.task c.done_load-run.new.task HEADS
    (given_seen c.args.task.now c.own_entry-entry.new.task c.own_entry-entry.result c.own_entry-entry.ensures)
    (given_step c.own_entry-entry.new.task c.done_load-run.new.task
    (step.Load (watch.Done c.args.run.now.of.cell) c.done_load-run.result) c.done_load-run.ensures.step)

pub returns-clause-awake : goal.returns-clause-awake
returns-clause-awake c = sleeps_not_on c.args.task.now c.own_entry-entry.new.task c.done_load-run.new.task
    (awake_seen c.args.task.now c.own_entry-entry.new.task c.own_entry-entry.result c.own_entry-entry.ensures)
    (awake_step c.own_entry-entry.new.task c.done_load-run.new.task
    (step.Load (watch.Done c.args.run.now.of.cell) c.done_load-run.result) c.done_load-run.ensures.step refl)
