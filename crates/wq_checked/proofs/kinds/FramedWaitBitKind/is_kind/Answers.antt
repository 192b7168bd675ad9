use Rattle.wq_checked.proofs.BitTurns.{bit_turns}
use Rattle.wq_checked.proofs.kinds.FramedWaitBitKind.is_kind.Goals as goal

pub returns : goal.returns
returns c = bit_turns
