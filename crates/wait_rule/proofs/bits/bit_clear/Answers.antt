use Rattle.wait_rule.proofs.KnownLaws.CarriedBits.{bit_is_cleared}
use Rattle.wait_rule.proofs.bits.bit_clear.Goals as goal

pub returns-clause-clears : goal.returns-clause-clears
returns-clause-clears c = bit_is_cleared c.args.task.now c.clear_as.new.task c.args.word c.args.bit
    c.clear_as.ensures.0 c.clear_as.ensures.1
