use Rattle.std.proofs.Common.{◌∙◌, subst, sym}
use Rattle.completion_cell.specs.AwaitEnds.{EndsAwait}
use Rattle.completion_cell.proofs.Endings.{ends_await, ends_carried, ends_off, ends_over}
use Rattle.completion_cell.proofs.await_calls.wait_for.Goals as goal

pub returns : goal.returns
returns g c =
    let e = ends_over _ _ _ _ _ _ c.run-outcome.ensures in
    let held = c.begin_await-wait.ensures.told.head ∙ c.requires.idle.free.head in record {
      waited = subst (EndsAwait c.args.task.now c.run-outcome.new.task c.args.cell c.args.state) (sym c.end_of.ensures)
          (ends_await _ _ _ _ _ _ c.begin_await-wait.ensures.fresh _ c.run-outcome.ensures);
      up = e.up;
      idle = e.idle c.requires.idle.unmarked;
      out = e.out;
      carries = ends_carried _ _ _ _ _ _ c.run-outcome.ensures c.requires.up c.requires.idle held;
      off = ends_off _ _ _ _ _ _ c.run-outcome.ensures held;
    }
