use Rattle.std.proofs.Common.{ap, arith, length, subst}
use Rattle.std.specs.Prelude.{ℕ, ◌≡◌, ◌<◌, ◌-◌, ◌^◌, if◌then◌else◌, set, slice_index}
use Rattle.wait_model.specs.Words.{bit_at}
use Rattle.wq_checked.proofs.Masks.{take_masks}
use Rattle.wq_checked.proofs.kept_bits.KeptBits.take.Goals as goal

pub returns : goal.returns
returns c =
    let ms = c.args.self.now.masks in
    let v = c.without_bit.result in
    let same = c.from-at.ensures in
    let all : length ms ≡ 128 = omega arith in
    let small : slice_index ms c.from-at.result < 2 ^ 64 = omega arith in
    take_masks c.args.self.now (record { masks = set ms c.from-at.result v }) c.args.word c.args.bit v (omega arith)
    c.requires.bit (subst (λ (i : ℕ). slice_index ms i < 2 ^ 64) same small) (ap (λ (i : ℕ). set ms i v) same)
    (subst (λ (i : ℕ). v ≡ (if bit_at (slice_index ms i) c.args.bit then slice_index ms i - 2 ^ c.args.bit
    else slice_index ms i)) same c.without_bit.ensures)
