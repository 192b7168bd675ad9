use Rattle.wait_rule.proofs.KnownLaws.PageLaws.{takes_for_waiters, worked_pages}
use Rattle.wait_rule.proofs.laws.pages_are_handed.Goals as goal

pub returns-clause-takes : goal.returns-clause-takes
returns-clause-takes c = takes_for_waiters

pub returns-clause-worked : goal.returns-clause-worked
returns-clause-worked c = worked_pages
