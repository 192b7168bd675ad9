use Rattle.std.proofs.Common.{◌<◌, subst, sym}
use Rattle.wait_model.specs.{declared.layout.TheConstants.FIRST_DONE_HEAD, Watches.head_of}
use Rattle.wait_event.proofs.{Conditions.low_fits, Preparing.carried_as, Preparing.lock_as}
use Rattle.poll_wait.proofs.Leaving.{leave_home, leave_low, leave_off, leave_on, leave_owes, off_carried, on_carried}
use Rattle.poll_wait.proofs.Leaving.{pares_second}
use Rattle.poll_wait.proofs.seconds.leave_second.Goals as goal

pub lock-requires-clause-head : goal.lock-requires-clause-head
lock-requires-clause-head g c = low_fits c.head_of.result (subst (λ (h : _). h < FIRST_DONE_HEAD) (sym c.head_of.ensures)
    (leave_low c.args.task.now c.second_entry.new.task c.second_entry.result c.requires.may c.told.ensures
    c.second_entry.ensures c.in-Some.entry c.in-Some.is))

pub pare_second-requires-clause-home : goal.pare_second-requires-clause-home
pare_second-requires-clause-home g c = leave_home c.args.task.now c.second_entry.new.task c.second_entry.result
    c.requires.may c.told.ensures c.second_entry.ensures c.in-Some.entry c.in-Some.is c.lock.new.task
    (lock_as c.second_entry.new.task c.lock.new.task c.head_of.result (head_of c.in-Some.entry.watch) c.head_of.ensures
    c.lock.ensures.locked)
    (carried_as c.second_entry.new.task c.lock.new.task c.head_of.result (head_of c.in-Some.entry.watch)
    c.head_of.ensures c.lock.ensures.carries)

pub unlock-requires-clause-permits : goal.unlock-requires-clause-permits
unlock-requires-clause-permits g c = leave_owes c.args.task.now c.second_entry.new.task c.second_entry.result
    c.requires.may c.told.ensures c.second_entry.ensures c.in-Some.entry c.in-Some.is c.lock.new.task
    (lock_as c.second_entry.new.task c.lock.new.task c.head_of.result (head_of c.in-Some.entry.watch) c.head_of.ensures
    c.lock.ensures.locked)
    (carried_as c.second_entry.new.task c.lock.new.task c.head_of.result (head_of c.in-Some.entry.watch)
    c.head_of.ensures c.lock.ensures.carries) c.pare_second.new.task
    (pares_second c.lock.new.task c.pare_second.new.task c.pare_second.result c.pare_second.ensures.pares).at

pub returns-in-None : goal.returns-in-None
returns-in-None g c =
    let s = c.second_entry in record {
      left = leave_off c.args.task.now s.new.task s.result c.requires.may c.told.ensures s.ensures c.in-None.is;
      carries = off_carried c.args.task.now s.new.task s.result c.requires.may c.told.ensures s.ensures c.in-None.is;
    }

pub returns-in-Some : goal.returns-in-Some
returns-in-Some g c =
    let old = c.args.task.now in
    let s = c.second_entry in
    let e = c.in-Some.entry in
    let a = c.lock.new.task in
    let b = c.pare_second in
    let u = c.unlock.ensures in
    let l = lock_as s.new.task a c.head_of.result (head_of e.watch) c.head_of.ensures c.lock.ensures.locked in
    let one = carried_as s.new.task a c.head_of.result (head_of e.watch) c.head_of.ensures c.lock.ensures.carries in
    record {
      left = leave_on old s.new.task s.result c.requires.may c.told.ensures s.ensures e c.in-Some.is a l one
          c.lock.ensures.held b.new.task b.result b.ensures.pares c.unlock.new.task u.unlocked u.carries;
      carries = on_carried old s.new.task s.result c.requires.may c.told.ensures s.ensures e c.in-Some.is a l one
          c.lock.ensures.held b.new.task b.result b.ensures.pares c.unlock.new.task u.unlocked u.carries;
    }
