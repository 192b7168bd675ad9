use Rattle.std.proofs.Common.{subst, sym}
use Rattle.wait_leave.proofs.Ways.{on_way_then}
use Rattle.wait_event.specs.WaitLeaves.{LeavesWait}
use Rattle.wait_event.proofs.WaitLaws.{wait_lawful}
use Rattle.wait_event.proofs.WaitLeaving.{left_kept, left_over, left_wait, wait_may_leave, way_clean}
use Rattle.wait_event.proofs.wait_leaves.leave_wait.Goals as goal

pub returns : goal.returns
returns g c =
    let w = c.leave-outcome.ensures.way in
    let e = left_over _ _ _ _ _ _ _ w in record {
      leaves = subst (LeavesWait (Unit {0}) c.args.task.now c.leave-outcome.new.task c.args.wait.now c.args.stage)
          (sym c.until_of.ensures) (left_wait _ _ _ _ _ _ _ w);
      awake = c.leave-outcome.ensures.awake;
      up = e.up;
      out = e.out;
      idle = e.idle;
      keeps = left_kept _ _ _ _ _ _ _ w;
      clean = λ p i. way_clean _ _ _ _ _ (on_way_then wait_may_leave wait_lawful i w);
    }
