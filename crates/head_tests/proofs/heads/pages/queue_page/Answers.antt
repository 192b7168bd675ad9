use Rattle.std.proofs.Common.{◌∙◌, None, sym, arith}
use Rattle.wait_rule.specs.Queues.{walk_of_hold}
use Rattle.wait_model.specs.Watches.{page}
use Rattle.wq_head.proofs.{AskedHolds.locked_asks, FullHeads.head_small, PermitHeads.walk_owes, LockWaits.locked_stored}
use Rattle.wq_head.proofs.LockWaits.{locked_at}
use Rattle.head_tests.proofs.heads.pages.queue_page.Goals as goal

pub lock-requires-clause-head : goal.lock-requires-clause-head
lock-requires-clause-head g c =
    let small = head_small (page c.args.page) (c.requires.page, omega arith) in
    let is = c.head_of.ensures in
    omega (arith, small, is)

pub add_for_page-requires-clause-head : goal.add_for_page-requires-clause-head
add_for_page-requires-clause-head g c = sym c.head_of.ensures
    ∙ sym (locked_at _ c.lock.new.task c.head_of.result (walk_of_hold c.head_of.result None) c.lock.ensures.locked)

pub add_for_page-requires-clause-out : goal.add_for_page-requires-clause-out
add_for_page-requires-clause-out g c = locked_stored c.args.task.now c.lock.new.task c.head_of.result
    (walk_of_hold c.head_of.result None) c.lock.ensures.locked _ (c.requires.ready.may.out _)

pub add_for_page-requires-clause-asks : goal.add_for_page-requires-clause-asks
add_for_page-requires-clause-asks g c = locked_asks c.args.task.now c.lock.new.task c.head_of.result
    (walk_of_hold c.head_of.result None) c.lock.ensures.locked c.requires.ready.may.asks

pub unlock-requires-clause-permits : goal.unlock-requires-clause-permits
unlock-requires-clause-permits g c = walk_owes (page c.args.page) c.set_state.new.task (c.requires.page, omega arith)
    (c.set_state.ensures.carries.at ∙ (c.add_for_page.ensures.at ∙ (c.lock.ensures.carries.at ∙ c.head_of.ensures)))
