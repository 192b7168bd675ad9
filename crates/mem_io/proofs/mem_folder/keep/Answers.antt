-- The file stands in the place of the one that was found, or behind all others.
use Rattle.std.proofs.Common.{arith, ◌∙◌}
use Rattle.mem_io.specs.MemFolders.{FileState}
use Rattle.mem_io.proofs.FolderFiles.{put_found, put_new}
use Rattle.mem_io.proofs.mem_folder.keep.Goals as goal

pub returns-then-at-len-clause-kept : goal.returns-then-at-len-clause-kept
returns-then-at-len-clause-kept c =
    let place = rw c.deref.ensures.value at c.place-at.ensures in
    let len = rw c.deref.ensures.value at c.deref.ensures.len in
    let file : FileState =
    record { name = c.args.name.now; bytes = c.args.bytes.items; fails = c.args.fails.now } in
    rw (c.in_ok-file.ensures, place) (put_found c.args.files.now.items file
    (omega (arith, place, len, c.len.ensures, c.if-at-len.true)))

pub returns-clause-kept : goal.returns-clause-kept
returns-clause-kept c =
    let place = rw c.deref.ensures.value at c.place-at.ensures in
    let len = rw c.deref.ensures.value at c.deref.ensures.len in
    let file : FileState =
    record { name = c.args.name.now; bytes = c.args.bytes.items; fails = c.args.fails.now } in
    c.in_ok-push.ensures.items ∙ rw c.in_ok-file.ensures (put_new c.args.files.now.items file
    (omega (arith, place, len, c.len.ensures, c.if-at-len.false)))
