use Rattle.std.proofs.Common.{subst, sym}
use Rattle.wait_event.proofs.Endings.{ends_clean}
use Rattle.var_wait.specs.VarWaits.{EndsVarWait}
use Rattle.var_wait.proofs.VarEnds.{ends_var}
use Rattle.var_wait.proofs.waits.end_var.Goals as goal

pub returns-clause-clean : goal.returns-clause-clean
returns-clause-clean c = λ p i. ends_clean i.old c.args.task.now i.began c.args.wait.now i.start c.args.outcome i.came
    i.clean i.told

pub returns-clause-ends : goal.returns-clause-ends
returns-clause-ends c = λ start f var old state at fresh a. subst (EndsVarWait start c.args.task.now var old state)
    (sym c.end_of_var.ensures)
    (ends_var start c.args.task.now f c.args.wait.now var old state fresh at.fits c.args.outcome a)
