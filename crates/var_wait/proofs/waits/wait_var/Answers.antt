use Rattle.std.proofs.Common.{◌∙◌, subst, sym}
use Rattle.wait_event.proofs.Endings.{ends_carried, ends_over}
use Rattle.var_wait.specs.VarWaits.{EndsVarWait}
use Rattle.var_wait.proofs.VarEnds.{ends_var}
use Rattle.var_wait.proofs.waits.wait_var.Goals as goal

pub returns : goal.returns
returns g c =
    let w = c.begin_var-wait.ensures in
    let e = ends_over _ _ _ _ _ _ c.run-outcome.ensures in record {
      waited = subst (EndsVarWait c.args.task.now c.run-outcome.new.task c.args.var c.args.old c.args.state)
          (sym c.end_of_var.ensures) (ends_var _ _ _ _ _ _ _ w.fresh w.at.fits _ c.run-outcome.ensures);
      up = e.up;
      idle = e.idle c.requires.idle.unmarked;
      out = e.out;
      carries = ends_carried _ _ _ _ _ _ c.run-outcome.ensures c.requires.up c.requires.idle
          (w.told.head ∙ c.requires.idle.free.head);
    }
