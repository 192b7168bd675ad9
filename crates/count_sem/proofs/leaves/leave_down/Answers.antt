use Rattle.std.proofs.Common.{◌∙◌, subst, sym}
use Rattle.wait_leave.proofs.Ways.{way_domain, way_lands}
use Rattle.count_sem.specs.DownLeaves.{LeavesDown}
use Rattle.count_sem.proofs.{DownLaws.down_lawful, PassedAwake.left_awake}
use Rattle.count_sem.proofs.DownLeaving.{down_may_leave, leaves_down, way_here, way_idle, way_kept, way_out_of, way_up}
use Rattle.count_sem.proofs.leaves.leave_down.Goals as goal

pub close-requires-clause-ended : goal.close-requires-clause-ended
close-requires-clause-ended g c = way_lands _ _ _ down_may_leave down_lawful _ _ _ _ _ _ c.leave-outcome.ensures.way

pub returns-clause-leaves : goal.returns-clause-leaves
returns-clause-leaves g c = subst (LeavesDown (Unit {0}) c.args.task.now c.close.new.task c.args.call.now c.args.stage)
    (sym c.close.ensures.answer)
    (leaves_down _ _ _ _ _ _ _ _ c.leave-outcome.ensures.way c.close.ensures.closes)

pub returns-clause-awake : goal.returns-clause-awake
returns-clause-awake g c = left_awake c.args.task.now c.leave-outcome.new.task c.close.new.task
    c.leave-outcome.new.call.of c.leave-outcome.result c.leave-outcome.ensures.awake c.close.ensures.closes

pub returns-clause-up : goal.returns-clause-up
returns-clause-up g c = way_up _ _ _ _ _ _ _ _ c.leave-outcome.ensures.way c.close.ensures.closes

pub returns-clause-out : goal.returns-clause-out
returns-clause-out g c = way_out_of _ _ _ _ _ _ _ _ c.leave-outcome.ensures.way c.close.ensures.closes

pub returns-clause-idle : goal.returns-clause-idle
returns-clause-idle g c = way_idle _ _ _ _ _ _ _ _ c.leave-outcome.ensures.way c.close.ensures.closes

pub returns-clause-left : goal.returns-clause-left
returns-clause-left g c = way_here _ _ _ _ _ _ _ _ c.leave-outcome.ensures.way c.close.ensures.closes

pub returns-clause-keeps : goal.returns-clause-keeps
returns-clause-keeps g c = way_kept _ _ _ _ _ _ _ _ c.leave-outcome.ensures.way c.close.ensures.closes

pub close-requires-clause-of : goal.close-requires-clause-of
close-requires-clause-of g c = way_domain _ _ _ down_may_leave down_lawful _ _ _ _ _ _ c.leave-outcome.ensures.way
    ∙ c.requires.of
