use Rattle.std.proofs.Common.{subst, sym}
use Rattle.completion_cell.specs.AwaitEnds.{EndsAwait}
use Rattle.completion_cell.proofs.Endings.{ends_await, ends_clean}
use Rattle.completion_cell.proofs.await_calls.end_await.Goals as goal

pub returns-clause-clean : goal.returns-clause-clean
returns-clause-clean c = λ p i. ends_clean i.old c.args.task.now i.began c.args.wait.now i.start c.args.outcome i.came
    i.clean i.told

pub returns-clause-ends : goal.returns-clause-ends
returns-clause-ends c = λ start f cell state fresh a. subst (EndsAwait start c.args.task.now cell state)
    (sym c.end_of.ensures) (ends_await start c.args.task.now f c.args.wait.now cell state fresh c.args.outcome a)
