use Rattle.std.proofs.Common.{◌∙◌, subst, sym}
use Rattle.std.specs.Prelude.{true}
use Rattle.wait_model.specs.declared.watches.Watch.TheVariants as watch
use Rattle.wait_event.specs.WaitLeaves.{EndsWaitUntil}
use Rattle.wait_event.proofs.WaitLeaving.{ends_until, left_carried, left_over}
use Rattle.wait_event.proofs.wait_leaves.wait_event_until.Goals as goal

pub returns : goal.returns
returns g c =
    let e = left_over _ _ _ _ _ _ _ c.run_asked-outcome.ensures in record {
      waited = subst (EndsWaitUntil (g.Q.Fn.post c.args.asks tt true) c.args.task.now c.run_asked-outcome.new.task
          (watch.Plain c.args.cond) c.args.how) (sym c.until_of.ensures)
          (ends_until _ _ _ _ _ _ _ _ c.begin_wait-wait.ensures.fresh c.run_asked-outcome.ensures);
      up = e.up;
      idle = e.idle c.requires.idle.unmarked;
      out = e.out;
      carries = left_carried _ _ _ _ _ _ _ c.run_asked-outcome.ensures c.requires.up c.requires.idle
          (c.begin_wait-wait.ensures.told.head ∙ c.requires.idle.free.head);
    }
