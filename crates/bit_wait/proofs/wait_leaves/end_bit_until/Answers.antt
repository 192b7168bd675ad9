use Rattle.std.proofs.Common.{subst, sym}
use Rattle.wait_class.specs.Wholes.{HasRested}
use Rattle.bit_wait.specs.BitLeaves.{LeavesBitWait}
use Rattle.bit_wait.proofs.BitLeaving.{left_clean, left_wait}
use Rattle.bit_wait.proofs.wait_leaves.end_bit_until.Goals as goal

pub returns-clause-clean : goal.returns-clause-clean
returns-clause-clean c p i = left_clean _ _ _ _ _ _ i
    (subst (HasRested _ _) c.is_bit_worn.ensures c.rest.ensures)

pub returns-clause-ends : goal.returns-clause-ends
returns-clause-ends c start f s came = subst (LeavesBitWait (Unit {0}) start c.rest.new.task f s)
    (sym c.until_of.ensures)
    (left_wait _ _ _ _ _ _ _ _ came (subst (HasRested _ _) c.is_bit_worn.ensures c.rest.ensures))
