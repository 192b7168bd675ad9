use Rattle.std.proofs.Common.{ap, arith, length, subst}
use Rattle.std.specs.Prelude.{ℕ, ◌≡◌, ◌<◌, ◌+◌, ◌^◌, if◌then◌else◌, set, slice_index}
use Rattle.wait_model.specs.Words.{bit_at}
use Rattle.wq_checked.proofs.Masks.{put_masks}
use Rattle.wq_checked.proofs.kept_bits.KeptBits.put.Goals as goal

pub returns : goal.returns
returns c =
    let ms = c.args.self.now.masks in
    let v = c.with_bit.result in
    let same = c.from-at.ensures in
    let all : length ms ≡ 128 = omega arith in
    let small : slice_index ms c.from-at.result < 2 ^ 64 = omega arith in
    put_masks c.args.self.now (record { masks = set ms c.from-at.result v }) c.args.word c.args.bit v (omega arith)
    c.requires.bit (subst (λ (i : ℕ). slice_index ms i < 2 ^ 64) same small) (ap (λ (i : ℕ). set ms i v) same)
    (subst (λ (i : ℕ). v ≡ (if bit_at (slice_index ms i) c.args.bit then slice_index ms i
    else slice_index ms i + 2 ^ c.args.bit)) same c.with_bit.ensures)
