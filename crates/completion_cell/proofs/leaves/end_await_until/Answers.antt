use Rattle.std.proofs.Common.{subst, sym}
use Rattle.completion_cell.specs.AwaitLeaves.{EndsAwaitUntil}
use Rattle.completion_cell.proofs.AwaitLeaving.{ends_until, way_clean}
use Rattle.completion_cell.proofs.leaves.end_await_until.Goals as goal

pub returns-clause-clean : goal.returns-clause-clean
returns-clause-clean c = λ p i. way_clean _ _ _ _ _ i

pub returns-clause-ends : goal.returns-clause-ends
returns-clause-ends c = λ start f cell state fresh w. subst (EndsAwaitUntil (Unit {0}) start c.args.task.now cell state)
    (sym c.until_of.ensures)
    (ends_until _ _ _ _ _ _ _ fresh c.args.outcome w)
