use Rattle.wait_rule.proofs.KnownLaws.FlagLaws.{steps_lose_no_flag, worked_flags}
use Rattle.wait_rule.proofs.laws.no_flag_lost.Goals as goal

pub returns-clause-steps : goal.returns-clause-steps
returns-clause-steps c = steps_lose_no_flag

pub returns-clause-worked : goal.returns-clause-worked
returns-clause-worked c = worked_flags
