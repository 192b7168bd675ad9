use Rattle.std.proofs.Common.{subst, sym}
use Rattle.count_sem.specs.DownLeaves.{EndsDownUntil}
use Rattle.count_sem.proofs.DownLeaving.{ends_until, on_way_clean, plain_closes}
use Rattle.count_sem.proofs.leaves.end_down_until.Goals as goal

pub returns-clause-clean : goal.returns-clause-clean
returns-clause-clean c = λ p i. on_way_clean _ _ _ _ _ _ i
    (plain_closes c.args.task.now c.args.wait.now.of c.args.outcome c.requires.over)

pub returns-clause-ends : goal.returns-clause-ends
returns-clause-ends c = λ start f cell state fresh w. subst (EndsDownUntil (Unit {0}) start c.args.task.now cell state)
    (sym c.until_of.ensures)
    (ends_until (Unit {0}) start c.args.task.now c.args.task.now f c.args.wait.now cell state fresh c.args.outcome w
    (plain_closes c.args.task.now c.args.wait.now.of c.args.outcome c.requires.over))
