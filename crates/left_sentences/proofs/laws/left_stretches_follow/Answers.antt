use Rattle.left_sentences.proofs.BitWays.{left_bit_locks_follow, left_bit_waits_follow}
use Rattle.left_sentences.proofs.CellWays.{left_awaits_follow}
use Rattle.left_sentences.proofs.CondWays as cond
use Rattle.left_sentences.proofs.PageWays as pages
use Rattle.left_sentences.proofs.laws.left_stretches_follow.Goals as goal

pub returns-clause-waits : goal.returns-clause-waits
returns-clause-waits c = cond.left_waits_follow _

pub returns-clause-simples : goal.returns-clause-simples
returns-clause-simples c = cond.left_simples_follow _

pub returns-clause-vars : goal.returns-clause-vars
returns-clause-vars c = cond.left_vars_follow _

pub returns-clause-all : goal.returns-clause-all
returns-clause-all c = cond.asked_waits_follow _

pub returns-clause-cells : goal.returns-clause-cells
returns-clause-cells c = left_awaits_follow _

pub returns-clause-bits : goal.returns-clause-bits
returns-clause-bits c = left_bit_waits_follow _

pub returns-clause-locks : goal.returns-clause-locks
returns-clause-locks c = left_bit_locks_follow _

pub returns-clause-pages : goal.returns-clause-pages
returns-clause-pages c = pages.left_pages_follow _
