use Rattle.count_sem.proofs.{AnsweredDowns.downs_counted, AnsweredTries.tries_counted, AnsweredUps.ups_counted}
use Rattle.count_sem.proofs.laws.answers_count_permits.Goals as goal

pub returns-clause-ups : goal.returns-clause-ups
returns-clause-ups c = ups_counted

pub returns-clause-tries : goal.returns-clause-tries
returns-clause-tries c = tries_counted

pub returns-clause-downs : goal.returns-clause-downs
returns-clause-downs c = downs_counted
