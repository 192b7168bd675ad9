-- The file that was kept has the bytes, and each other one is as it was.
use Rattle.std.proofs.Common.{refl, []}
use Rattle.mem_io.specs.MemFolders.{FileState, bytes_at}
use Rattle.mem_io.proofs.FolderFiles.{stores}
use Rattle.mem_io.proofs.mem_folder.store_in.Goals as goal

pub returns-in-Ok-clause-stored : goal.returns-in-Ok-clause-stored
returns-in-Ok-clause-stored c =
    let file : FileState = record { name = c.args.name.now; bytes = c.args.bytes.items; fails = [] } in
    (bytes_at c.keep.new.files.items, refl, rw c.in-Ok.ensures.kept (stores c.args.files.now.items file))
