use Rattle.std.proofs.Common.{subst, sym}
use Rattle.wait_class.specs.declared.stages.Turn.TheVariants as turn
use Rattle.wait_leave.proofs.Ways.{under_way_is}
use Rattle.count_sem.specs.{DownEnds.EndsDown, DownLeaves.down_exits, Downs.down_table}
use Rattle.count_sem.proofs.DownEndings.{ends_down, plain_end}
use Rattle.count_sem.proofs.DownLeaving.{on_way_clean, plain_closes}
use Rattle.count_sem.proofs.down_calls.end_down.Goals as goal

pub returns-clause-clean : goal.returns-clause-clean
returns-clause-clean c = λ p i. on_way_clean (Unit {0}) p c.args.task.now c.args.task.now c.args.wait.now c.args.outcome
    (under_way_is (Unit {0}) down_table down_exits p c.args.task.now c.args.wait.now (turn.Done c.args.outcome) i)
    (plain_closes c.args.task.now c.args.wait.now.of c.args.outcome c.requires.over)

pub returns-clause-ends : goal.returns-clause-ends
returns-clause-ends c = λ start f cell state fresh a. subst (EndsDown start c.args.task.now cell state)
    (sym c.end_of.ensures) (ends_down start c.args.task.now f c.args.wait.now cell state fresh c.args.outcome
    (plain_end c.args.outcome c.requires.over) a)
