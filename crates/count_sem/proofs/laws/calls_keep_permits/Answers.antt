use Rattle.count_sem.proofs.SemOthers.{others_keep_use}
use Rattle.count_sem.proofs.SemCalls.{downs_keep_use, stretches_keep_use, tries_keep_use, ups_keep_use}
use Rattle.count_sem.proofs.laws.calls_keep_permits.Goals as goal

pub returns-clause-ups : goal.returns-clause-ups
returns-clause-ups c = ups_keep_use

pub returns-clause-tries : goal.returns-clause-tries
returns-clause-tries c = tries_keep_use

pub returns-clause-downs : goal.returns-clause-downs
returns-clause-downs c = downs_keep_use

pub returns-clause-stretches : goal.returns-clause-stretches
returns-clause-stretches c = stretches_keep_use

pub returns-clause-others : goal.returns-clause-others
returns-clause-others c = others_keep_use
