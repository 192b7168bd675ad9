use Rattle.std.proofs.Common.{◌<◌, subst, sym}
use Rattle.wait_model.specs.{declared.layout.TheConstants.FIRST_DONE_HEAD, Watches.head_of}
use Rattle.wait_event.proofs.{Conditions.low_fits, PartSteps.pares_at, Preparing.carried_as, Preparing.lock_as}
use Rattle.wait_event.proofs.Finishing.{finish_home, finish_low, finish_off, finish_on, finish_owes}
use Rattle.wait_event.proofs.prepares.take_off.Goals as goal

pub lock-requires-clause-head : goal.lock-requires-clause-head
lock-requires-clause-head g c = low_fits c.head_of.result (subst (λ (h : _). h < FIRST_DONE_HEAD) (sym c.head_of.ensures)
    (finish_low c.args.task.now c.set_state.new.task c.requires.may c.set_state.ensures.step c.set_state.ensures.carries
    c.own_entry.new.task c.own_entry.result c.own_entry.ensures c.in-Some.entry c.in-Some.is))

pub pare-requires-clause-home : goal.pare-requires-clause-home
pare-requires-clause-home g c = finish_home c.args.task.now c.set_state.new.task c.requires.may
    c.set_state.ensures.step c.set_state.ensures.carries c.own_entry.new.task c.own_entry.result c.own_entry.ensures
    c.in-Some.entry c.in-Some.is c.lock.new.task
    (lock_as c.own_entry.new.task c.lock.new.task c.head_of.result (head_of c.in-Some.entry.watch) c.head_of.ensures
    c.lock.ensures.locked)
    (carried_as c.own_entry.new.task c.lock.new.task c.head_of.result (head_of c.in-Some.entry.watch) c.head_of.ensures
    c.lock.ensures.carries)

pub unlock-requires-clause-permits : goal.unlock-requires-clause-permits
unlock-requires-clause-permits g c = finish_owes c.args.task.now c.set_state.new.task c.requires.may
    c.set_state.ensures.step c.set_state.ensures.carries c.own_entry.new.task c.own_entry.result c.own_entry.ensures
    c.in-Some.entry c.in-Some.is c.lock.new.task
    (lock_as c.own_entry.new.task c.lock.new.task c.head_of.result (head_of c.in-Some.entry.watch) c.head_of.ensures
    c.lock.ensures.locked)
    (carried_as c.own_entry.new.task c.lock.new.task c.head_of.result (head_of c.in-Some.entry.watch) c.head_of.ensures
    c.lock.ensures.carries) c.pare.new.task
    (pares_at c.lock.new.task c.pare.new.task c.pare.result c.pare.ensures.pares)

pub returns-in-None : goal.returns-in-None
returns-in-None g c = finish_off c.args.task.now c.set_state.new.task c.requires.may c.set_state.ensures.step
    c.set_state.ensures.carries c.own_entry.new.task c.own_entry.result c.own_entry.ensures c.in-None.is

pub returns-in-Some : goal.returns-in-Some
returns-in-Some g c = finish_on c.args.task.now c.set_state.new.task c.requires.may c.set_state.ensures.step
    c.set_state.ensures.carries c.own_entry.new.task c.own_entry.result c.own_entry.ensures c.in-Some.entry
    c.in-Some.is c.lock.new.task
    (lock_as c.own_entry.new.task c.lock.new.task c.head_of.result (head_of c.in-Some.entry.watch) c.head_of.ensures
    c.lock.ensures.locked)
    (carried_as c.own_entry.new.task c.lock.new.task c.head_of.result (head_of c.in-Some.entry.watch) c.head_of.ensures
    c.lock.ensures.carries) c.lock.ensures.held c.pare.new.task c.pare.result c.pare.ensures.pares c.unlock.new.task
    c.unlock.ensures.unlocked c.unlock.ensures.carries
