use Rattle.count_sem.proofs.SemMoments.{all_keep, rule_keeps, steps_keep}
use Rattle.count_sem.proofs.SemScripts.{worked_semaphores}
use Rattle.count_sem.proofs.laws.permits.Goals as goal

pub returns-clause-steps : goal.returns-clause-steps
returns-clause-steps c = steps_keep

pub returns-clause-rule : goal.returns-clause-rule
returns-clause-rule c = rule_keeps

pub returns-clause-all : goal.returns-clause-all
returns-clause-all c = all_keep

pub returns-clause-worked : goal.returns-clause-worked
returns-clause-worked c = worked_semaphores
