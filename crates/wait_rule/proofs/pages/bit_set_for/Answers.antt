use Rattle.wait_rule.specs.Queues.{index}
use Rattle.wait_rule.proofs.KnownLaws.CarriedSteps.{tried_carried}
use Rattle.wait_rule.proofs.pages.bit_set_for.Goals as goal

pub returns-clause-carries : goal.returns-clause-carries
returns-clause-carries c = tried_carried c.args.task.now c.set_for.new.task (index c.args.who c.args.slot) c.args.word
    c.set_for.result c.set_for.ensures
