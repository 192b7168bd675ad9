use Rattle.std.proofs.Common.{refl}
use Rattle.page_lock.proofs.PageFlags.{clear_advances}
use Rattle.std.specs.Prelude.{None}
use Rattle.wait_model.specs.declared.steps.Step.TheVariants as step
use Rattle.wait_rule.specs.Queues.{index}
use Rattle.wait_class.proofs.{Handed.given_step, AwakeSteps.awake_step}
use Rattle.page_lock.proofs.waits.unflag_event.Goals as goal

pub returns-clause-turned : goal.returns-clause-turned
returns-clause-turned c = clear_advances c.args.task.now c.woken_clear.new.task c.args.run.now
    c.woken_clear.ensures.step c.woken_clear.ensures.carries c.requires.at

pub returns-clause-given : goal.returns-clause-given
returns-clause-given c = given_step c.args.task.now c.woken_clear.new.task
    (step.Unflag (index c.args.task.now.view.number 0) None) c.woken_clear.ensures.step

pub returns-clause-awake : goal.returns-clause-awake
returns-clause-awake c = awake_step c.args.task.now c.woken_clear.new.task
    (step.Unflag (index c.args.task.now.view.number 0) None) c.woken_clear.ensures.step refl
