-- The function of the entry that was taken off, or none.
use Rattle.std.proofs.Common.{arith}
use Rattle.func_head.proofs.FoundEntries.{found_there, found_nowhere}
use Rattle.func_head.proofs.head.FuncHead.remove.Goals as goal

pub returns-then-at-len-clause-found : goal.returns-then-at-len-clause-found
returns-then-at-len-clause-found g c =
    let at = rw c.deref.ensures.value at c.place-at.ensures in
    let len = rw c.deref.ensures.value at c.deref.ensures.len in
    found_there _ _ c.args.self.now.entries.items c.len.result c.place-at.result c.remove.result at
    (omega (arith, len, c.len.ensures)) c.if-at-len.true c.remove.ensures.value

pub returns-clause-found : goal.returns-clause-found
returns-clause-found g c =
    let at = rw c.deref.ensures.value at c.place-at.ensures in
    let len = rw c.deref.ensures.value at c.deref.ensures.len in
    found_nowhere _ _ c.args.self.now.entries.items c.place-at.result at
    (omega (arith, len, c.len.ensures, c.if-at-len.false))
