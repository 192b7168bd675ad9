use Rattle.std.proofs.Common.{◌∙◌, false, subst, sym, true}
use Rattle.wq_head.specs.Roused.{RousesNone}
use Rattle.wq_head.proofs.RousedTasks.{none_unlocked}
use Rattle.completion_cell.proofs.{CellHolds.reset_over, CellHolds.reset_owes, CellRousing.none_set}
use Rattle.completion_cell.proofs.asks.reinit_hold.Goals as goal

pub give_back-requires-clause-permits : goal.give_back-requires-clause-permits
give_back-requires-clause-permits c = reset_owes c.args.cell c.requires.holds.0 c.args.task.now c.done_store.new.task
    c.args.task.now c.requires.holds.1 c.done_store.ensures

pub returns-clause-over : goal.returns-clause-over
returns-clause-over c start i = reset_over c.args.cell start c.args.task.now c.done_store.new.task
    c.give_back.new.task i c.done_store.ensures true c.give_back.ensures.given

pub returns-clause-rouses : goal.returns-clause-rouses
returns-clause-rouses c =
    let m = c.done_store.new.task in
    subst (RousesNone m) (sym c.give_back.ensures.given) (none_unlocked m m.at false)
    ∙ none_set c.args.cell 0 c.args.task.now m c.done_store.ensures
