use Rattle.std.proofs.Common.{◌∙◌}
use Rattle.wait_core.proofs.IndexChanges.{taken_out}
use Rattle.wait_core.proofs.index.take_out.Goals as goal

pub returns-then-at-len-clause-index : goal.returns-then-at-len-clause-index
returns-then-at-len-clause-index c = λ f h s.
    rw c.remove.ensures.items (taken_out f c.args.index.now.items h c.args.number c.requires.number
    c.in-Some.stand (rw c.in-Some.is at c.requires.fits) c.below-at.result
    (rw c.deref.ensures.value at c.below-at.ensures.within)
    (rw (c.deref.ensures.value, c.from.ensures) at c.below-at.ensures.before)
    (rw (c.deref.ensures.value, c.from.ensures) at c.below-at.ensures.behind) (s ∙ c.in-Some.is))
