use Rattle.std.proofs.Common.{◌∙◌, ap}
use Rattle.wait_rule.specs.Queues.{at_head, walk_of_hold}
use Rattle.wait_rule.proofs.KnownLaws.CarriedSteps.{locked_carried}
use Rattle.wait_rule.proofs.queues.lock_step.Goals as goal

pub returns-clause-carries : goal.returns-clause-carries
returns-clause-carries c = locked_carried c.args.task.now _ c.args.head (walk_of_hold c.args.head c.args.walk)
    c.lock_as.result (ap (at_head c.args.head) (c.task.view_is ∙ c.lock_as.ensures.step))
