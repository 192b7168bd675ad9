use Rattle.std.proofs.Common.{refl}
use Rattle.page_lock.proofs.PageQueues.{off_advances}
use Rattle.wait_model.specs.declared.steps.Step.TheVariants as step
use Rattle.wait_rule.specs.Queues.{index}
use Rattle.wait_class.proofs.{Handed.given_stored, AwakeSteps.awake_stored}
use Rattle.page_lock.proofs.waits.off_event.Goals as goal

pub returns-clause-turned : goal.returns-clause-turned
returns-clause-turned c = off_advances c.args.task.now c.remove.new.task c.args.run.now c.requires.at
    c.number-me.result c.number-me.ensures.number c.remove.ensures.removed c.remove.ensures.held

pub returns-clause-given : goal.returns-clause-given
returns-clause-given c = given_stored c.args.task.now c.remove.new.task (step.Unqueue (index c.number-me.result 0))
    c.remove.ensures.removed.is

pub returns-clause-awake : goal.returns-clause-awake
returns-clause-awake c = awake_stored c.args.task.now c.remove.new.task (step.Unqueue (index c.number-me.result 0))
    c.remove.ensures.removed.is refl
