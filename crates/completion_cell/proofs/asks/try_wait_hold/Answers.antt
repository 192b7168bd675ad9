use Rattle.std.proofs.Common.{◌∙◌, false, subst, sym}
use Rattle.wq_head.specs.Roused.{RousesNone}
use Rattle.wq_head.proofs.RousedTasks.{none_unlocked}
use Rattle.completion_cell.proofs.CellHolds.{tried_counted, tried_over, tried_owes}
use Rattle.completion_cell.proofs.CellRousing.{none_counted, none_taken}
use Rattle.completion_cell.proofs.asks.try_wait_hold.Goals as goal

pub take_one-requires-clause-counted : goal.take_one-requires-clause-counted
take_one-requires-clause-counted c =
    let l = c.done_load-count in
    let k = c.args.task.now in
    tried_counted c.args.cell l.result c.requires.holds.0 k l.new.task k k c.requires.holds.1 l.ensures.step
    l.ensures.finds l.ensures.carries

pub give_back-requires-clause-permits : goal.give_back-requires-clause-permits
give_back-requires-clause-permits c =
    let l = c.done_load-count in
    let k = c.args.task.now in
    let t = c.take_one in
    tried_owes c.args.cell l.result c.requires.holds.0 k l.new.task t.new.task k c.requires.holds.1 l.ensures.step
    l.ensures.finds l.ensures.carries t.result t.ensures.took t.ensures.stores

pub returns-clause-over : goal.returns-clause-over
returns-clause-over c start i =
    let l = c.done_load-count in
    let k = c.args.task.now in
    let t = c.take_one in
    tried_over c.args.cell l.result start k l.new.task t.new.task c.give_back.new.task i l.ensures.step
    l.ensures.finds l.ensures.carries t.result t.ensures.took t.ensures.stores c.give_back.ensures.given

pub returns-clause-rouses : goal.returns-clause-rouses
returns-clause-rouses c =
    let l = c.done_load-count in
    let k = c.args.task.now in
    let t = c.take_one in
    subst (RousesNone t.new.task) (sym c.give_back.ensures.given) (none_unlocked t.new.task t.new.task.at false)
    ∙ (none_taken c.args.cell l.result l.new.task t.new.task t.result t.ensures.stores
    ∙ none_counted c.args.cell l.result k l.new.task l.ensures.step)
