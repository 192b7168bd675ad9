use Rattle.std.proofs.Common.{◌∙◌, subst, sym}
use Rattle.wait_class.specs.Wholes.{HasRested}
use Rattle.wait_class.proofs.{AwakeSteps.sleeps_not_on, Framing.framed_lawful}
use Rattle.wait_leave.proofs.{Awake.rest_awake, Ways.on_way_then}
use Rattle.bit_wait.specs.{BitLeaves.LeavesBitWait, BitTables.bit_frame}
use Rattle.bit_wait.proofs.BitLaws.{bit_lawful}
use Rattle.bit_wait.proofs.BitLeaving.{bit_may_leave, left_clean, left_domain, left_kept, left_over, left_wait}
use Rattle.bit_wait.proofs.wait_leaves.leave_bit.Goals as goal

pub returns : goal.returns
returns g c =
    let l = c.leave-outcome.ensures in
    let h = subst (HasRested c.leave-outcome.new.task c.rest.new.task) c.is_bit_worn.ensures c.rest.ensures in
    let e = left_over _ _ _ _ _ _ _ _ l.way h in record {
      leaves = subst (LeavesBitWait (Unit {0}) c.args.task.now c.rest.new.task c.args.call.now c.args.stage)
          (sym c.until_of.ensures) (left_wait _ _ _ _ _ _ _ _ l.way h);
      awake = sleeps_not_on _ _ _ l.awake (rest_awake _ _ _ h);
      up = e.up;
      out = e.out;
      idle = e.idle;
      keeps = left_kept _ _ _ _ _ _ _ _ l.way h;
      clean = λ p i. left_clean _ _ _ _ _ _
          (on_way_then bit_may_leave (framed_lawful bit_frame bit_lawful) i l.way) h;
    }

pub rest-requires-clause-of : goal.rest-requires-clause-of
rest-requires-clause-of g c = left_domain _ _ _ _ _ _ _ c.leave-outcome.ensures.way ∙ c.requires.of
