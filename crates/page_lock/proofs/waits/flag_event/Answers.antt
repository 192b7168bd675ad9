use Rattle.std.proofs.Common.{refl}
use Rattle.page_lock.proofs.PageFlags.{flag_advances}
use Rattle.wait_model.specs.declared.steps.Step.TheVariants as step
use Rattle.wait_rule.specs.Queues.{index}
use Rattle.wait_class.proofs.{Handed.given_step, AwakeSteps.awake_step}
use Rattle.page_lock.proofs.waits.flag_event.Goals as goal

pub returns-clause-turned : goal.returns-clause-turned
returns-clause-turned c = flag_advances c.args.task.now c.flag_load-word.new.task c.args.run.now c.args.stage
    c.requires.here c.requires.at c.flag_load-word.result c.flag_load-word.ensures.step
    c.flag_load-word.ensures.carries c.flag_load-word.ensures.given c.flag_load-word.ensures.none c.flag_of.result
    c.flag_of.ensures c.flagged_to.result c.flagged_to.ensures

pub returns-clause-given : goal.returns-clause-given
returns-clause-given c = given_step c.args.task.now c.flag_load-word.new.task
    (step.Flag (index c.args.task.now.view.number 0) c.flag_load-word.result) c.flag_load-word.ensures.step

pub returns-clause-awake : goal.returns-clause-awake
returns-clause-awake c = awake_step c.args.task.now c.flag_load-word.new.task
    (step.Flag (index c.args.task.now.view.number 0) c.flag_load-word.result) c.flag_load-word.ensures.step refl
