use Rattle.std.proofs.Common.{◌<◌, None, Ok, subst, sym}
use Rattle.wait_model.specs.{declared.layout.TheConstants.FIRST_DONE_HEAD, Watches.head_of}
use Rattle.wait_rule.proofs.KnownLaws.AskedPages.{asks_no_page, no_page_asked}
use Rattle.wq_head.proofs.{AskedHolds.stays_unasked, LockWaits.locked_stays}
use Rattle.wait_event.specs.Prepares.{EndsPart}
use Rattle.wait_event.proofs.{Conditions.low_fits, Conditions.suits_low, PartSteps.joins_at, PartSteps.pares_at}
use Rattle.wait_event.proofs.Preparing.{begins_owing, carried_as, ends_again, ends_carried, ends_keeps, ends_may}
use Rattle.wait_event.proofs.Preparing.{join_ends, lock_as, prepare_low, prepare_stands, signal_ends}
use Rattle.wait_event.proofs.prepares.prepare.Goals as goal

pub lock-requires-clause-head : goal.lock-requires-clause-head
lock-requires-clause-head g c = low_fits c.head_of.result (subst (λ (h : _). h < FIRST_DONE_HEAD) (sym c.head_of.ensures)
    (suits_low c.args.part.watch c.args.part.kind c.args.part.how c.requires.suits))

pub pare-requires-clause-home : goal.pare-requires-clause-home
pare-requires-clause-home g c = prepare_stands c.args.part c.args.task.now c.lock.new.task c.heeds.new.task c.heeds.result
    c.requires.may c.told.ensures c.requires.suits
    (lock_as c.args.task.now c.lock.new.task c.head_of.result (head_of c.args.part.watch) c.head_of.ensures
    c.lock.ensures.locked)
    (carried_as c.args.task.now c.lock.new.task c.head_of.result (head_of c.args.part.watch) c.head_of.ensures
    c.lock.ensures.carries) c.heeds.ensures.heeds

pub unlock-requires-clause-permits : goal.unlock-requires-clause-permits
unlock-requires-clause-permits g c = prepare_low c.args.part c.args.task.now c.lock.new.task c.heeds.new.task
    c.heeds.result c.requires.may c.told.ensures c.requires.suits
    (lock_as c.args.task.now c.lock.new.task c.head_of.result (head_of c.args.part.watch) c.head_of.ensures
    c.lock.ensures.locked)
    (carried_as c.args.task.now c.lock.new.task c.head_of.result (head_of c.args.part.watch) c.head_of.ensures
    c.lock.ensures.carries) c.heeds.ensures.heeds c.pare.new.task
    (pares_at c.heeds.new.task c.pare.new.task c.pare.result c.pare.ensures.pares)

pub returns-then-heeds-clause-ends : goal.returns-then-heeds-clause-ends
returns-then-heeds-clause-ends g c = signal_ends c.args.part c.args.task.now c.lock.new.task c.heeds.new.task
    c.requires.may c.told.ensures c.requires.suits
    (lock_as c.args.task.now c.lock.new.task c.head_of.result (head_of c.args.part.watch) c.head_of.ensures
    c.lock.ensures.locked)
    (carried_as c.args.task.now c.lock.new.task c.head_of.result (head_of c.args.part.watch) c.head_of.ensures
    c.lock.ensures.carries) c.heeds.ensures.held c.pare.new.task c.unlock.new.task c.unlock.ensures.unlocked
    c.unlock.ensures.carries c.heeds.result c.if-heeds.true c.heeds.ensures.heeds c.pare.result c.pare.ensures.pares

pub returns-then-heeds-clause-may : goal.returns-then-heeds-clause-may
returns-then-heeds-clause-may g c = ends_may c.args.part c.args.task.now c.unlock.new.task c.requires.may c.told.ensures
    c.told-then-heeds.ensures c.requires.suits (Ok None) (returns-then-heeds-clause-ends g c)

pub returns-then-heeds-clause-again : goal.returns-then-heeds-clause-again
returns-then-heeds-clause-again g c = ends_again c.args.part c.args.task.now c.unlock.new.task c.requires.may
    c.told.ensures c.told-then-heeds.ensures c.requires.suits (Ok None) (returns-then-heeds-clause-ends g c)

pub returns-then-heeds-clause-keeps : goal.returns-then-heeds-clause-keeps
returns-then-heeds-clause-keeps g c = ends_keeps c.args.part c.args.task.now c.unlock.new.task c.requires.may
    c.told.ensures c.told-then-heeds.ensures c.requires.suits (Ok None) (returns-then-heeds-clause-ends g c)

pub returns-then-heeds-clause-begins : goal.returns-then-heeds-clause-begins
returns-then-heeds-clause-begins g c = begins_owing c.args.task.now c.unlock.new.task
    (returns-then-heeds-clause-keeps g c)

pub returns-then-heeds-clause-carries : goal.returns-then-heeds-clause-carries
returns-then-heeds-clause-carries g c = ends_carried c.args.part c.args.task.now c.unlock.new.task c.requires.may
    c.told.ensures c.told-then-heeds.ensures c.requires.suits (Ok None) (returns-then-heeds-clause-ends g c)

pub join-joined-requires-clause-asks : goal.join-joined-requires-clause-asks
join-joined-requires-clause-asks g c woken = no_page_asked c.heeds.new.task (c.heeds.ensures.heeds.asks
    (stays_unasked c.args.task.now c.lock.new.task
    (locked_stays c.args.task.now c.lock.new.task c.head_of.result _ c.lock.ensures.locked).debts
    (asks_no_page c.args.task.now (c.requires.asks woken))))

pub unlock-requires-2-clause-permits : goal.unlock-requires-2-clause-permits
unlock-requires-2-clause-permits g c = prepare_low c.args.part c.args.task.now c.lock.new.task c.heeds.new.task
    c.heeds.result c.requires.may c.told.ensures c.requires.suits
    (lock_as c.args.task.now c.lock.new.task c.head_of.result (head_of c.args.part.watch) c.head_of.ensures
    c.lock.ensures.locked)
    (carried_as c.args.task.now c.lock.new.task c.head_of.result (head_of c.args.part.watch) c.head_of.ensures
    c.lock.ensures.carries) c.heeds.ensures.heeds c.join-joined.new.task
    (joins_at c.args.part c.heeds.new.task c.join-joined.new.task c.join-joined.result c.join-joined.ensures.joins)

pub returns-clause-ends : goal.returns-clause-ends
returns-clause-ends g c = subst (EndsPart c.args.task.now c.unlock-2.new.task c.args.part) (sym c.unsignalled.ensures)
    (join_ends c.args.part c.args.task.now c.lock.new.task c.heeds.new.task
    c.requires.may c.told.ensures c.requires.suits
    (lock_as c.args.task.now c.lock.new.task c.head_of.result (head_of c.args.part.watch) c.head_of.ensures
    c.lock.ensures.locked)
    (carried_as c.args.task.now c.lock.new.task c.head_of.result (head_of c.args.part.watch) c.head_of.ensures
    c.lock.ensures.carries) c.heeds.ensures.held c.join-joined.new.task c.unlock-2.new.task c.unlock-2.ensures.unlocked
    c.unlock-2.ensures.carries c.heeds.result c.if-heeds.false c.heeds.ensures.heeds c.join-joined.result
    c.join-joined.ensures.joins)

pub returns-clause-may : goal.returns-clause-may
returns-clause-may g c = ends_may c.args.part c.args.task.now c.unlock-2.new.task c.requires.may c.told.ensures
    c.told-2.ensures c.requires.suits c.unsignalled.result (returns-clause-ends g c)

pub returns-clause-keeps : goal.returns-clause-keeps
returns-clause-keeps g c = ends_keeps c.args.part c.args.task.now c.unlock-2.new.task c.requires.may c.told.ensures
    c.told-2.ensures c.requires.suits c.unsignalled.result (returns-clause-ends g c)

pub returns-clause-begins : goal.returns-clause-begins
returns-clause-begins g c = begins_owing c.args.task.now c.unlock-2.new.task (returns-clause-keeps g c)

pub returns-clause-carries : goal.returns-clause-carries
returns-clause-carries g c = ends_carried c.args.part c.args.task.now c.unlock-2.new.task c.requires.may c.told.ensures
    c.told-2.ensures c.requires.suits c.unsignalled.result (returns-clause-ends g c)
