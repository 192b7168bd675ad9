use Rattle.wait_rule.proofs.KnownLaws.CarriedSteps.{given_carried}
use Rattle.wait_rule.proofs.queues.unlock_step.Goals as goal

pub returns-clause-carries : goal.returns-clause-carries
returns-clause-carries c = given_carried c.args.task.now c.unlock_as.new.task c.args.task.now.at c.args.spent
    c.unlock_as.ensures
