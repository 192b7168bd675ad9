use Rattle.wq_checked.proofs.LockTurns.{lock_turns}
use Rattle.wq_checked.proofs.kinds.FramedLockBitKind.is_kind.Goals as goal

pub returns : goal.returns
returns c = lock_turns
