use Rattle.std.proofs.Common.{◌≤◌, ℕ, false, subst, sym}
use Rattle.wait_model.specs.declared.layout.TheConstants.{ALL_DONE, FIRST_SIMPLE_HEAD}
use Rattle.wq_head.specs.Roused.{RousesNone}
use Rattle.wq_head.proofs.RousedTasks.{none_unlocked, rousing_from, rousing_on}
use Rattle.completion_cell.proofs.{CellHolds.every_over, CellHolds.every_owes, CellRousing.none_set}
use Rattle.completion_cell.proofs.Completing.{done_simple}
use Rattle.completion_cell.proofs.completes.complete_all_hold.Goals as goal

pub select_tries-requires-clause-simple : goal.select_tries-requires-clause-simple
select_tries-requires-clause-simple c = subst (λ (n : ℕ). FIRST_SIMPLE_HEAD ≤ n) (sym c.head_of.ensures)
    (done_simple c.args.cell)

pub give_back-requires-clause-permits : goal.give_back-requires-clause-permits
give_back-requires-clause-permits c =
    let k = c.args.task.now in
    let s = c.select_tries in
    every_owes c.args.cell c.in_ok-select_tries.field-0 c.requires.holds.0 k c.done_store.new.task s.new.task k
    c.requires.holds.1 c.done_store.ensures c.in_ok-select_tries.ensures.selected s.ensures.hold s.ensures.keeps

pub returns-clause-over : goal.returns-clause-over
returns-clause-over c start i =
    let s = c.select_tries in
    every_over c.args.cell c.in_ok-select_tries.field-0 start c.args.task.now c.done_store.new.task s.new.task
    c.give_back.new.task i c.done_store.ensures c.in_ok-select_tries.ensures.selected s.ensures.hold s.ensures.keeps
    c.give_back.ensures.given

-- whom it is to rouse
pub returns-clause-rouses : goal.returns-clause-rouses
returns-clause-rouses c =
    let k = c.args.task.now in
    let s = c.select_tries in
    rousing_on k s.new.task c.give_back.new.task s.new.rousing
    (subst (RousesNone s.new.task) (sym c.give_back.ensures.given) (none_unlocked s.new.task s.new.task.at false))
    (rousing_from k c.done_store.new.task s.new.task s.new.rousing
    (none_set c.args.cell ALL_DONE k c.done_store.new.task c.done_store.ensures) s.ensures.rouses)

pub returns-in_err-select_tries-clause-rouses : goal.returns-in_err-select_tries-clause-rouses
returns-in_err-select_tries-clause-rouses c =
    let k = c.args.task.now in
    let s = c.select_tries in
    rousing_from k c.done_store.new.task s.new.task s.new.rousing
    (none_set c.args.cell ALL_DONE k c.done_store.new.task c.done_store.ensures) s.ensures.rouses
