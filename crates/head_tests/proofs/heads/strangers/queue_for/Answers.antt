use Rattle.std.proofs.Common.{◌∙◌, None, sym, arith}
use Rattle.wait_rule.specs.Queues.{walk_of_hold}
use Rattle.wq_head.proofs.{AskedHolds.locked_asks, FullHeads.head_small, PermitHeads.walk_owes, LockWaits.locked_stored}
use Rattle.wq_head.proofs.LockWaits.{locked_at}
use Rattle.head_tests.proofs.heads.strangers.queue_for.Goals as goal

pub lock-requires-clause-head : goal.lock-requires-clause-head
lock-requires-clause-head g c =
    let small = head_small c.args.watch c.requires.full in
    let is = c.head_of.ensures in
    omega (arith, small, is)

pub add_front-requires-clause-head : goal.add_front-requires-clause-head
add_front-requires-clause-head g c = sym c.head_of.ensures
    ∙ sym (locked_at _ c.lock.new.task c.head_of.result (walk_of_hold c.head_of.result None) c.lock.ensures.locked)

pub add_front-requires-clause-out : goal.add_front-requires-clause-out
add_front-requires-clause-out g c = locked_stored c.args.task.now c.lock.new.task c.head_of.result
    (walk_of_hold c.head_of.result None) c.lock.ensures.locked _ (c.requires.ready.may.out _)

pub unlock-requires-clause-permits : goal.unlock-requires-clause-permits
unlock-requires-clause-permits g c = walk_owes c.args.watch c.set_state.new.task c.requires.full
    (c.set_state.ensures.carries.at ∙ (c.add_front.ensures.at ∙ (c.lock.ensures.carries.at ∙ c.head_of.ensures)))

pub add_front-requires-clause-asks : goal.add_front-requires-clause-asks
add_front-requires-clause-asks g c woken = locked_asks c.args.task.now c.lock.new.task c.head_of.result
    (walk_of_hold c.head_of.result None) c.lock.ensures.locked c.requires.ready.may.asks
