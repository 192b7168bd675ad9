use Rattle.std.proofs.Common.{subst, sym}
use Rattle.completion_cell.specs.AwaitLeaves.{LeavesAwait}
use Rattle.completion_cell.proofs.AwaitLeaving.{leaves_await, left_here, left_kept, left_over}
use Rattle.completion_cell.proofs.leaves.leave_await.Goals as goal

pub returns : goal.returns
returns g c =
    let way = c.leave-outcome.ensures.way in
    let e = left_over _ _ _ _ _ _ _ way in record {
      leaves = subst (LeavesAwait (Unit {0}) c.args.task.now c.leave-outcome.new.task c.args.call.now c.args.stage)
          (sym c.until_of.ensures) (leaves_await _ _ _ _ _ _ _ way);
      awake = c.leave-outcome.ensures.awake;
      up = e.up;
      out = e.out;
      idle = e.idle;
      left = left_here _ _ _ _ _ _ _ way;
      keeps = left_kept _ _ _ _ _ _ _ way;
    }
