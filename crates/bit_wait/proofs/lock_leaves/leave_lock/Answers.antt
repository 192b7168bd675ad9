use Rattle.std.proofs.Common.{◌∙◌, subst, sym}
use Rattle.std.specs.Prelude.{Result}
use Rattle.wait_rule.specs.Queues.{index}
use Rattle.wait_class.proofs.AwakeSteps.{sleeps_not_on}
use Rattle.wait_leave.specs.declared.exits.Until.{Until}
use Rattle.wait_leave.proofs.Awake.{rest_awake}
use Rattle.bit_wait.specs.{LockLeaves.LeavesBitLock, LockLeaves.takes_until, LockStays.LockKeeps}
use Rattle.bit_wait.specs.{LockTables.lock_bit_in, LockTables.lock_table, declared.wait_calls.BitEnd.BitEnd}
use Rattle.bit_wait.proofs.LockLeaving.{left_domain, left_kept, left_lock, left_over, left_tries}
use Rattle.bit_wait.proofs.lock_leaves.leave_lock.Goals as goal

pub returns : goal.returns
returns g c =
    let l = c.leave-outcome.ensures in
    let h = c.rest.ensures in
    let e = left_over _ _ _ _ _ _ _ _ l.way h in record {
      leaves = subst (LeavesBitLock (Unit {0}) c.args.task.now c.rest.new.task c.args.call.now c.args.stage)
          (sym c.until_of.ensures) (left_lock _ _ _ _ _ _ _ _ l.way h);
      awake = sleeps_not_on _ _ _ l.awake (rest_awake _ _ _ h);
      up = e.up;
      out = e.out;
      idle = e.idle;
      tries = left_tries _ _ _ _ _ _ _ _ l.way h;
      keeps = subst (λ (x : Until (Result (Unit {0}) BitEnd)). LockKeeps (index c.args.task.now.view.number 0)
          (lock_bit_in c.args.call.now.of.wait) (lock_table.took c.args.stage) (takes_until x) c.args.task.now
          c.rest.new.task) (sym c.until_of.ensures) (left_kept _ _ _ _ _ _ _ _ l.way h);
    }

pub rest-requires-clause-of : goal.rest-requires-clause-of
rest-requires-clause-of g c = left_domain _ _ _ _ _ _ _ c.leave-outcome.ensures.way ∙ c.requires.of
