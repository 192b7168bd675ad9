use Rattle.std.proofs.Common.{rules}
use Rattle.flow_copy.proofs.{Awaits.locked_end, Awaits.read_tally, Words.loses_page}
use Rattle.flow_copy.proofs.Counting.{counted_all, locked, unlocked}
use Rattle.copy_ends.proofs.Idlers.{at_work, controlled, counted_apart}
use Rattle.flow_copy.proofs.controller.read_tally.Goals as goal

pub returns-in_err-lock_page-clause-controlled : goal.returns-in_err-lock_page-clause-controlled
returns-in_err-lock_page-clause-controlled g c =
    let e = c.in_err-lock_page.ensures in
    controlled c.args.task.now c.lock_page.new.task c.requires.idler
    (unlocked c.args.task.now c.lock_page.new.task _ _ c.told.ensures
    (at_work c.args.task.now c.requires.idler) e.waited
    e.up e.idle e.out e.takes)

pub returns-in_err-lock_page-clause-ends : goal.returns-in_err-lock_page-clause-ends
returns-in_err-lock_page-clause-ends g c =
    let e = locked_end c.args.task.now c.lock_page.new.task c.in_err-lock_page.field-0.0
    c.in_err-lock_page.ensures.waited in
    search rules

pub returns-in_err-lock_page-clause-goes : goal.returns-in_err-lock_page-clause-goes
returns-in_err-lock_page-clause-goes g c =
    let e = loses_page c.args.task.now c.lock_page.new.task c.in_err-lock_page.field-0.0
    c.in_err-lock_page.ensures.waited in
    search rules

pub returns-clause-controlled : goal.returns-clause-controlled
returns-clause-controlled g c =
    let e = c.in_ok-lock_page.ensures in
    let work = at_work c.args.task.now c.requires.idler in
    let locks = locked c.args.task.now c.lock_page.new.task _ _ c.told.ensures work e.waited e.up e.idle e.out e.takes
    in
    controlled c.args.task.now c.unlock_page.new.task c.requires.idler
    (counted_apart c.args.task.now c.unlock_page.new.task
    (counted_all c.args.task.now c.lock_page.new.task c.add_tally-total.new.task 0 c.add_tally-total.result work locks
    c.add_tally-total.ensures.step c.add_tally-total.ensures.carries c.unlock_page.new.task c.unlock_page.result
    c.told-2.ensures c.unlock_page.ensures.cleared c.unlock_page.ensures.up c.unlock_page.ensures.idle
    c.unlock_page.ensures.gives))

pub returns-clause-ends : goal.returns-clause-ends
returns-clause-ends g c =
    let e = c.in_ok-lock_page.ensures in
    let work = at_work c.args.task.now c.requires.idler in
    let locks = locked c.args.task.now c.lock_page.new.task _ _ c.told.ensures work e.waited e.up e.idle e.out e.takes
    in
    read_tally c.args.task.now c.lock_page.new.task c.add_tally-total.new.task c.unlock_page.new.task
    c.unlock_page.result c.add_tally-total.result locks.grows c.add_tally-total.ensures.finds
    c.add_tally-total.ensures.step c.unlock_page.ensures.cleared
