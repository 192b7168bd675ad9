use Rattle.left_sentences.proofs.BitWays.{left_bit_locks_follow, left_bit_waits_follow}
use Rattle.left_sentences.proofs.laws.left_bits_follow.Goals as goal

pub returns-clause-waits : goal.returns-clause-waits
returns-clause-waits g c = left_bit_waits_follow _

pub returns-clause-locks : goal.returns-clause-locks
returns-clause-locks g c = left_bit_locks_follow _
