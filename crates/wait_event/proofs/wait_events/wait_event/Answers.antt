use Rattle.std.proofs.Common.{◌∙◌, subst, sym}
use Rattle.wait_event.specs.Ends.{EndsWait}
use Rattle.wait_event.proofs.Endings.{ends_carried, ends_over, ends_wait}
use Rattle.wait_event.proofs.wait_events.wait_event.Goals as goal

pub returns : goal.returns
returns g c =
    let e = ends_over _ _ _ _ _ _ c.run-outcome.ensures in
    let i = c.requires.idle in record {
      waited = subst (EndsWait c.args.task.now c.run-outcome.new.task c.args.cond c.args.how) (sym c.end_of.ensures)
          (ends_wait _ _ _ _ _ _ c.begin_wait-wait.ensures.fresh c.begin_wait-wait.ensures.at.fits _
          c.run-outcome.ensures);
      up = e.up;
      idle = e.idle i.unmarked;
      out = e.out;
      carries = ends_carried _ _ _ _ _ _ c.run-outcome.ensures c.requires.up i
          (c.begin_wait-wait.ensures.told.head ∙ i.free.head);
    }
