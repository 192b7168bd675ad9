use Rattle.std.proofs.Common.{rules}
use Rattle.wait_event.proofs.Removing.{head_fit, may_take, removes, taken_owes}
use Rattle.wait_event.proofs.entries.remove_entry.Goals as goal

pub lock-requires-clause-head : goal.lock-requires-clause-head
lock-requires-clause-head g c = head_fit c.args.task.now c.standing_entry-entry.new.task c.requires.may c.told.ensures
    c.standing_entry-entry.result c.standing_entry-entry.ensures.same c.standing_entry-entry.ensures.stands c.head_of.result c.head_of.ensures

pub remove-requires-clause-may : goal.remove-requires-clause-may
remove-requires-clause-may g c = may_take c.args.task.now c.standing_entry-entry.new.task c.requires.may c.told.ensures
    c.standing_entry-entry.result c.standing_entry-entry.ensures.same c.standing_entry-entry.ensures.stands c.lock.new.task c.head_of.result
    c.head_of.ensures c.lock.ensures.locked c.lock.ensures.held c.lock.ensures.carries c.own_entry.new.task
    c.own_entry.result c.own_entry.ensures c.number-number.result c.number-number.ensures.number

pub returns : goal.returns
returns g c =
    let x = removes c.args.task.now c.standing_entry-entry.new.task c.requires.may c.told.ensures
    c.standing_entry-entry.result c.standing_entry-entry.ensures.same c.standing_entry-entry.ensures.stands
    c.lock.new.task c.head_of.result c.head_of.ensures c.lock.ensures.locked c.lock.ensures.held c.lock.ensures.carries
    c.own_entry.new.task c.own_entry.result c.own_entry.ensures c.number-number.result c.number-number.ensures.number
    c.remove.new.task c.remove.ensures.removed c.unlock.new.task c.unlock.ensures.unlocked c.unlock.ensures.carries in
    record { removed = x.removed; up = search rules; free = search rules; out = x.out; carries = x.carries }

pub unlock-requires-clause-permits : goal.unlock-requires-clause-permits
unlock-requires-clause-permits g c = taken_owes c.args.task.now c.standing_entry-entry.new.task c.requires.may c.told.ensures
    c.standing_entry-entry.result c.standing_entry-entry.ensures.same c.standing_entry-entry.ensures.stands c.lock.new.task c.head_of.result
    c.head_of.ensures c.lock.ensures.locked c.lock.ensures.held c.lock.ensures.carries c.own_entry.new.task
    c.own_entry.result c.own_entry.ensures c.number-number.result c.remove.new.task
    c.remove.ensures.removed
