use Rattle.std.proofs.Common.{◌≡◌, ◌<◌, arith, true, is_ok, length}
use Rattle.wait_model.specs.declared.layout.TheConstants.{MEMBERS}
use Rattle.wait_core.proofs.IndexChanges.{put_in, room}
use Rattle.wait_core.proofs.index.put_in.Goals as goal

pub returns-in-Some-clause-index : goal.returns-in-Some-clause-index
returns-in-Some-clause-index c = λ f h s.
    let free : length c.args.index.now.items < MEMBERS = room f c.args.index.now.items h c.args.number
    c.requires.number c.in-Some.stand (rw c.in-Some.is at c.requires.fits) c.below-at.result
    (rw c.deref.ensures.value at c.below-at.ensures.within)
    (rw (c.deref.ensures.value, c.from.ensures) at c.below-at.ensures.before)
    (rw (c.deref.ensures.value, c.from.ensures) at c.below-at.ensures.behind) s in
    let ok : is_ok c.insert.result ≡ true = c.insert.ensures.succeeds (omega (arith, free, c.requires.room)) in
    rw (c.in-Some.is, c.insert.ensures.items, ok, c.from.ensures) (put_in f c.args.index.now.items h c.args.number
    c.requires.number c.in-Some.stand (rw c.in-Some.is at c.requires.fits) c.below-at.result
    (rw c.deref.ensures.value at c.below-at.ensures.within)
    (rw (c.deref.ensures.value, c.from.ensures) at c.below-at.ensures.before)
    (rw (c.deref.ensures.value, c.from.ensures) at c.below-at.ensures.behind) s)
