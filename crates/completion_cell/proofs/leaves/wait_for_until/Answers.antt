use Rattle.std.proofs.Common.{◌∙◌, subst, sym}
use Rattle.std.specs.Prelude.{true}
use Rattle.completion_cell.specs.AwaitLeaves.{EndsAwaitUntil}
use Rattle.completion_cell.proofs.AwaitLeaving.{ends_until, left_carried, left_off, left_over}
use Rattle.completion_cell.proofs.leaves.wait_for_until.Goals as goal

pub returns : goal.returns
returns g c =
    let way = c.run_asked-outcome.ensures in
    let e = left_over _ _ _ _ _ _ _ way in
    let held = c.begin_await-wait.ensures.told.head ∙ c.requires.idle.free.head in record {
      waited = subst (EndsAwaitUntil (g.Q.Fn.post c.args.asks tt true) c.args.task.now c.run_asked-outcome.new.task
          c.args.cell c.args.state) (sym c.until_of.ensures)
          (ends_until _ _ _ _ _ _ _ c.begin_await-wait.ensures.fresh _ way);
      up = e.up;
      idle = e.idle c.requires.idle.unmarked;
      out = e.out;
      carries = left_carried _ _ _ _ _ _ _ way c.requires.up c.requires.idle held;
      off = left_off _ _ _ _ _ _ _ way held;
    }
