-- The file at the place that was found, or none.
use Rattle.std.proofs.Common.{sym, arith}
use Rattle.std.proofs.lemmas.Grind.{common_steps}
use Rattle.mem_io.proofs.FolderFiles.{found, missing}
use Rattle.mem_io.proofs.mem_folder.find.Goals as goal

pub returns-then-at-files : goal.returns-then-at-files
returns-then-at-files c =
    let at = c.place-at.ensures in
    let is = found c.args.files.now c.args.name.now c.index-files-at.result (omega (arith, at, c.if-at-files.true)) in
    let item = c.index-files-at.is in
    grind (arith, common_steps, is, at, item)

pub returns : goal.returns
returns c =
    let at = c.place-at.ensures in
    sym (missing c.args.files.now c.args.name.now (omega (arith, at, c.if-at-files.false)))
