use Rattle.std.proofs.Common.{false, subst, sym}
use Rattle.wq_head.specs.Roused.{RousesNone}
use Rattle.wq_head.proofs.RousedTasks.{none_unlocked}
use Rattle.completion_cell.proofs.CellHolds.{done_over, done_owes}
use Rattle.completion_cell.proofs.asks.is_done_hold.Goals as goal

pub give_back-requires-clause-permits : goal.give_back-requires-clause-permits
give_back-requires-clause-permits c =
    done_owes c.args.cell c.requires.holds.0 c.args.task.now c.args.task.now c.requires.holds.1

pub returns-clause-over : goal.returns-clause-over
returns-clause-over c start i =
    done_over c.args.cell start c.args.task.now c.give_back.new.task i c.give_back.ensures.given

pub returns-clause-rouses : goal.returns-clause-rouses
returns-clause-rouses c = subst (RousesNone c.args.task.now) (sym c.give_back.ensures.given)
    (none_unlocked c.args.task.now c.args.task.now.at false)
