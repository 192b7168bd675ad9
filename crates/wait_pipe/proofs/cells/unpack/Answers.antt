use Rattle.std.proofs.Common.{◌≤◌, ◌+◌, ◌-◌, ◌++◌, ◌∙◌, take, drop, length, ap, sym, subst, slice_index_or}
use Rattle.wait_pipe.proofs.Unpacked.{unpacked}
use Rattle.wait_pipe.proofs.cells.unpack.Goals as goal

pub returns-clause-bytes : goal.returns-clause-bytes
returns-clause-bytes c =
    let a = c.copy_from_slice.ensures.after in
    let b = c.to_le_bytes-cell.ensures in
    unpacked c.args.at (slice_index_or c.to_le_bytes-cell.result 0 0) (c.args.at + 7 - c.args.at) c.args.buf.now
    c.copy_from_slice.new.self c.to_le_bytes-cell.result a (ap length (a ∙ ap (λ l. take 7 (drop 1 l)) b))
    c.requires.room (subst (λ l. slice_index_or l 0 0 ≤ 7) (sym b) c.requires.cell.1)
    ∙ ap (λ l. take c.args.at c.args.buf.now ++ take (slice_index_or l 0 0) (drop 1 l)) b
