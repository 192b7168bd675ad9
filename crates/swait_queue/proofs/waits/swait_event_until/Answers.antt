use Rattle.std.proofs.Common.{◌∙◌, subst, sym}
use Rattle.std.specs.Prelude.{true}
use Rattle.wait_model.specs.declared.watches.Watch.TheVariants as watch
use Rattle.wait_event.specs.WaitLeaves.{EndsWaitUntil}
use Rattle.wait_event.proofs.WaitLeaving.{ends_until, left_carried, left_over}
use Rattle.swait_queue.specs.SimpleWaits.{tail_in}
use Rattle.swait_queue.proofs.waits.swait_event_until.Goals as goal

pub returns : goal.returns
returns g c =
    let r = c.run_asked-outcome in
    let e = left_over _ _ _ _ _ _ _ r.ensures in record {
      waited = subst (EndsWaitUntil (g.Q.Fn.post c.args.asks tt true) c.args.task.now r.new.task
          (watch.Plain c.args.cond) (tail_in c.args.state)) (sym c.until_of.ensures)
          (ends_until _ _ _ _ _ _ _ _ c.begin_swait-wait.ensures.fresh r.ensures);
      up = e.up;
      idle = e.idle c.requires.idle.unmarked;
      out = e.out;
      carries = left_carried _ _ _ _ _ _ _ r.ensures c.requires.up c.requires.idle
          (c.begin_swait-wait.ensures.told.head ∙ c.requires.idle.free.head);
    }
