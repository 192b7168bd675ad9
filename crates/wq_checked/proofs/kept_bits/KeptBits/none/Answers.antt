use Rattle.wq_checked.proofs.Masks.{no_masks}
use Rattle.wq_checked.proofs.kept_bits.KeptBits.none.Goals as goal

pub returns : goal.returns
returns c = no_masks
