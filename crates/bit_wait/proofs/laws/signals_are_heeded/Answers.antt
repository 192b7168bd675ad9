use Rattle.bit_wait.proofs.Heeding.{bit_locks_heed, bit_waits_heed}
use Rattle.bit_wait.proofs.laws.signals_are_heeded.Goals as goal

pub returns-clause-waits : goal.returns-clause-waits
returns-clause-waits c = bit_waits_heed

pub returns-clause-locks : goal.returns-clause-locks
returns-clause-locks c = bit_locks_heed
