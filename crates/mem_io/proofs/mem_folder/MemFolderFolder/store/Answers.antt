-- The call is among those that fail.
use Rattle.std.proofs.Common.{refl}
use Rattle.mem_io.proofs.mem_folder.MemFolderFolder.store.Goals as goal

pub returns-then-fails-clause-exact : goal.returns-then-fails-clause-exact
returns-then-fails-clause-exact c =
    ((λ _. rw (← c.self.view_is) (c.next-fails.ensures.fails.0 c.if-fails.true)), λ _. refl)
