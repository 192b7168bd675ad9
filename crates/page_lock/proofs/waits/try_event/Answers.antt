use Rattle.std.proofs.Common.{refl}
use Rattle.page_lock.proofs.PageTries.{try_advances}
use Rattle.wait_model.specs.declared.steps.Step.TheVariants as step
use Rattle.wait_model.specs.declared.watches.Watch.TheVariants as watch
use Rattle.wait_class.proofs.{Handed.given_step, AwakeSteps.awake_step}
use Rattle.page_lock.proofs.waits.try_event.Goals as goal

pub returns-clause-turned : goal.returns-clause-turned
returns-clause-turned c = try_advances c.args.task.now c.bit_set-value.new.task c.args.run.now c.args.stage
    c.requires.here c.requires.at c.bit_set-value.result c.bit_set-value.ensures.step c.bit_set-value.ensures.sets
    c.bit_at.result c.bit_at.ensures c.tried_to.result c.tried_to.ensures

pub returns-clause-given : goal.returns-clause-given
returns-clause-given c = given_step c.args.task.now c.bit_set-value.new.task
    (step.Consume (watch.Bit c.args.run.now.of.page 0) 1 c.bit_set-value.result) c.bit_set-value.ensures.step

pub returns-clause-awake : goal.returns-clause-awake
returns-clause-awake c = awake_step c.args.task.now c.bit_set-value.new.task
    (step.Consume (watch.Bit c.args.run.now.of.page 0) 1 c.bit_set-value.result) c.bit_set-value.ensures.step refl
