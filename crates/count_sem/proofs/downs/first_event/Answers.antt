use Rattle.std.proofs.Common.{refl}
use Rattle.wait_class.proofs.{Handed.given_step, AwakeSteps.awake_step}
use Rattle.wait_model.specs.declared.steps.Step.TheVariants as step
use Rattle.wait_model.specs.declared.watches.Watch.TheVariants as watch
use Rattle.count_sem.proofs.DownCounts.{first_turned}
use Rattle.count_sem.proofs.downs.first_event.Goals as goal

pub returns-clause-turned : goal.returns-clause-turned
returns-clause-turned c = first_turned c.args.task.now c.done_load-run.new.task c.args.run.now c.done_load-run.result
    c.requires.at c.done_load-run.ensures.step c.done_load-run.ensures.finds c.done_load-run.ensures.carries
    c.first_to.result c.first_to.ensures

pub returns-clause-given : goal.returns-clause-given
returns-clause-given c = given_step c.args.task.now c.done_load-run.new.task
    (step.Load (watch.Done c.args.run.now.of.cell) c.done_load-run.result) c.done_load-run.ensures.step

pub returns-clause-awake : goal.returns-clause-awake
returns-clause-awake c = awake_step c.args.task.now c.done_load-run.new.task
    (step.Load (watch.Done c.args.run.now.of.cell) c.done_load-run.result) c.done_load-run.ensures.step refl
