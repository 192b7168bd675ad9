use Rattle.flow_copy.proofs.Awaits.{awaited_apart, awaited_signal}
use Rattle.copy_ends.proofs.Idlers.{at_work, controlled}
use Rattle.flow_copy.proofs.controller.await_one.Goals as goal

pub returns-in-Ok-clause-controlled : goal.returns-in-Ok-clause-controlled
returns-in-Ok-clause-controlled g c =
    let e = c.in-Ok.ensures in
    controlled c.args.task.now c.wait_for.new.task c.requires.idler
    (awaited_apart c.args.task.now c.wait_for.new.task _ e.waited (at_work c.args.task.now c.requires.idler) e.up e.idle
    e.out e.carries e.off)

pub returns-in-Err-Worn-clause-controlled : goal.returns-in-Err-Worn-clause-controlled
returns-in-Err-Worn-clause-controlled g c =
    let e = c.in-Err-Worn.ensures in
    controlled c.args.task.now c.wait_for.new.task c.requires.idler
    (awaited_apart c.args.task.now c.wait_for.new.task _ e.waited (at_work c.args.task.now c.requires.idler) e.up e.idle
    e.out e.carries e.off)

pub returns-in-Err-Signal-clause-controlled : goal.returns-in-Err-Signal-clause-controlled
returns-in-Err-Signal-clause-controlled g c =
    let e = c.in-Err-Signal.ensures in
    controlled c.args.task.now c.wait_for.new.task c.requires.idler
    (awaited_apart c.args.task.now c.wait_for.new.task _ e.waited (at_work c.args.task.now c.requires.idler) e.up e.idle
    e.out e.carries e.off)

pub returns-in-Err-Signal-clause-ends : goal.returns-in-Err-Signal-clause-ends
returns-in-Err-Signal-clause-ends g c =
    let e = rw c.in-Err-Signal.field-0-is at c.in-Err-Signal.ensures.waited in
    awaited_signal c.args.task.now c.wait_for.new.task _ _ e

pub returns-in-Err-Signal-clause-loses : goal.returns-in-Err-Signal-clause-loses
returns-in-Err-Signal-clause-loses g c =
    let e = rw c.in-Err-Signal.field-0-is at c.in-Err-Signal.ensures.waited in
    awaited_signal c.args.task.now c.wait_for.new.task _ _ e
