use Rattle.std.proofs.Common.{◌∙◌, subst, sym}
use Rattle.wait_event.specs.Ends.{EndsWait}
use Rattle.wait_event.proofs.Endings.{ends_carried, ends_over, ends_wait}
use Rattle.swait_queue.specs.SimpleWaits.{tail_in}
use Rattle.swait_queue.proofs.SimpleWaitEnds.{simple_wait}
use Rattle.swait_queue.proofs.waits.swait_event.Goals as goal

pub returns : goal.returns
returns g c =
    let b = c.begin_swait-wait.ensures in
    let e = ends_over _ _ _ _ _ _ c.run-outcome.ensures in record {
      waited = simple_wait c.args.task.now c.run-outcome.new.task c.args.cond c.args.state c.end_of.result
          (subst (EndsWait c.args.task.now c.run-outcome.new.task c.args.cond (tail_in c.args.state))
          (sym c.end_of.ensures) (ends_wait _ _ _ _ _ _ b.fresh b.at.fits _ c.run-outcome.ensures));
      up = e.up;
      idle = e.idle c.requires.idle.unmarked;
      out = e.out;
      carries = ends_carried _ _ _ _ _ _ c.run-outcome.ensures c.requires.up c.requires.idle
          (b.told.head ∙ c.requires.idle.free.head);
    }
