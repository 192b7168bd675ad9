use Rattle.std.proofs.Common.{◌<◌, subst, sym}
use Rattle.wait_model.specs.{declared.layout.TheConstants.FIRST_DONE_HEAD, Watches.head_of}
use Rattle.wait_event.proofs.{Conditions.low_fits, Preparing.carried_as, Preparing.lock_as}
use Rattle.poll_wait.proofs.Joining.{held_at, join_carries, join_ends, join_may, joins_home, joins_low}
use Rattle.poll_wait.proofs.Polled.{polled_low}
use Rattle.poll_wait.proofs.seconds.join_second.Goals as goal

pub lock-requires-clause-head : goal.lock-requires-clause-head
lock-requires-clause-head g c = low_fits c.head_of.result (subst (λ (h : _). h < FIRST_DONE_HEAD) (sym c.head_of.ensures)
    (polled_low c.args.watch c.requires.polled))

pub join_held-joined-requires-clause-head : goal.join_held-joined-requires-clause-head
join_held-joined-requires-clause-head g c = sym
    (carried_as c.args.task.now c.lock.new.task c.head_of.result (head_of c.args.watch) c.head_of.ensures
    c.lock.ensures.carries).at

pub join_held-joined-requires-clause-home : goal.join_held-joined-requires-clause-home
join_held-joined-requires-clause-home g c = joins_home c.args.watch c.args.task.now c.lock.new.task c.requires.may
    (carried_as c.args.task.now c.lock.new.task c.head_of.result (head_of c.args.watch) c.head_of.ensures
    c.lock.ensures.carries)

pub unlock-requires-clause-permits : goal.unlock-requires-clause-permits
unlock-requires-clause-permits g c = joins_low c.args.watch c.args.task.now c.lock.new.task
    (carried_as c.args.task.now c.lock.new.task c.head_of.result (head_of c.args.watch) c.head_of.ensures
    c.lock.ensures.carries) (polled_low c.args.watch c.requires.polled) c.join_held-joined.new.task
    (held_at c.args.watch c.lock.new.task c.join_held-joined.new.task c.join_held-joined.result
    c.join_held-joined.ensures.joins)

pub returns : goal.returns
returns g c =
    let w = c.args.watch in
    let old = c.args.task.now in
    let a = c.lock.new.task in
    let b = c.join_held-joined.new.task in
    let new = c.unlock.new.task in
    let l = lock_as old a c.head_of.result (head_of w) c.head_of.ensures c.lock.ensures.locked in
    let one = carried_as old a c.head_of.result (head_of w) c.head_of.ensures c.lock.ensures.carries in
    let r = c.join_held-joined.result in
    let joins = c.join_held-joined.ensures.joins in
    let u = c.unlock.ensures in
    record {
      ends = join_ends w old a b new c.requires.may c.told.ensures l one u.unlocked u.carries r joins;
      may = join_may w old a b new c.requires.may c.told.ensures l one u.unlocked u.carries r joins;
      carries = join_carries w old a b new c.requires.may c.told.ensures l one u.unlocked u.carries r joins;
    }
