use Rattle.wait_model.specs.declared.steps.Step.TheVariants as step
use Rattle.wait_rule.specs.declared.journal.Item.TheVariants as item
use Rattle.wq_checked.proofs.Once.{item_ready}
use Rattle.wq_checked.proofs.at_once.kick.Goals as goal

pub returns-in-Ok-clause-sound : goal.returns-in-Ok-clause-sound
returns-in-Ok-clause-sound c =
    let tried = c.in-Ok.ensures in
    item_ready c.args.kept.now c.args.task.now c.wake_tries.new.task
    (item.Made (step.Wake c.args.who c.mask.result tried.step.0)) tt tried.step.2 tried.carries c.requires.ready
