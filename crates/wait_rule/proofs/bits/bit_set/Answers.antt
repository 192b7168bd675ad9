use Rattle.wait_rule.proofs.KnownLaws.CarriedBits.{bit_is_set}
use Rattle.wait_rule.proofs.bits.bit_set.Goals as goal

pub returns-clause-sets : goal.returns-clause-sets
returns-clause-sets c = bit_is_set c.args.task.now c.set_as.new.task c.args.word c.args.bit c.set_as.result
    c.set_as.ensures
