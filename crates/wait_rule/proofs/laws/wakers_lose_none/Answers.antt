use Rattle.wait_rule.proofs.KnownLaws.LosesNone.{owers_leave_none, settled_leave_none}
use Rattle.wait_rule.proofs.laws.wakers_lose_none.Goals as goal

pub returns-clause-settled : goal.returns-clause-settled
returns-clause-settled c = settled_leave_none

pub returns-clause-owers : goal.returns-clause-owers
returns-clause-owers c = owers_leave_none
