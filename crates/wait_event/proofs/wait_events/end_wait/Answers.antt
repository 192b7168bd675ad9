use Rattle.std.proofs.Common.{subst, sym}
use Rattle.wait_event.specs.Ends.{EndsWait}
use Rattle.wait_event.proofs.Endings.{ends_clean, ends_wait}
use Rattle.wait_event.proofs.wait_events.end_wait.Goals as goal

pub returns-clause-clean : goal.returns-clause-clean
returns-clause-clean c = λ p i. ends_clean i.old c.args.task.now i.began c.args.wait.now i.start c.args.outcome i.came
    i.clean i.told

pub returns-clause-ends : goal.returns-clause-ends
returns-clause-ends c = λ start f cond how at fresh a. subst (EndsWait start c.args.task.now cond how)
    (sym c.end_of.ensures) (ends_wait start c.args.task.now f c.args.wait.now cond how fresh at.fits c.args.outcome a)
