use Rattle.count_sem.proofs.AnsweredLeaves.{left_downs_counted}
use Rattle.count_sem.proofs.laws.left_answers_count_permits.Goals as goal

pub returns-clause-asked : goal.returns-clause-asked
returns-clause-asked c s = left_downs_counted _

pub returns-clause-left : goal.returns-clause-left
returns-clause-left c s = left_downs_counted _
