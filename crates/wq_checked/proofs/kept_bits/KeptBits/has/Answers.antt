use Rattle.std.proofs.Common.{◌∙◌, ap, sym}
use Rattle.std.specs.Prelude.{ℕ, slice_index}
use Rattle.wait_model.specs.Words.{bit_at}
use Rattle.wq_checked.proofs.Masks.{has_bit}
use Rattle.wq_checked.proofs.kept_bits.KeptBits.has.Goals as goal

pub returns : goal.returns
returns c = c.bit_at.ensures
    ∙ (ap (λ (i : ℕ). bit_at (slice_index c.args.self.now.masks i) c.args.bit) c.from.ensures
    ∙ sym (has_bit c.args.self.now c.args.word c.args.bit c.requires.bit))
