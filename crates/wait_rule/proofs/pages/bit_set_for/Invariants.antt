use Rattle.wait_rule.specs.Queues.{index}
use Rattle.wait_rule.proofs.pages.bit_set_for.Given as goal

abbrev pub ghosts-set_for : goal.ghosts-set_for
ghosts-set_for a = record { number = index a.who a.slot }
