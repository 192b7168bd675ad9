use Rattle.left_sentences.proofs.CondWays as cond
use Rattle.left_sentences.proofs.laws.left_waits_follow.Goals as goal

pub returns-clause-waits : goal.returns-clause-waits
returns-clause-waits g c = cond.left_waits_follow _

pub returns-clause-simples : goal.returns-clause-simples
returns-clause-simples g c = cond.left_simples_follow _

pub returns-clause-vars : goal.returns-clause-vars
returns-clause-vars g c = cond.left_vars_follow _

pub returns-clause-all : goal.returns-clause-all
returns-clause-all g c = cond.asked_waits_follow _
