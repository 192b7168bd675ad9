use Rattle.wait_class.specs.declared.stages.Turn.TheVariants as turn
use Rattle.wait_class.proofs.Turns.{advances_on}
use Rattle.wait_class.proofs.runs.run.Goals as goal

pub returns-in-Again : goal.returns-in-Again
returns-in-Again g c =
    let a = c.in-Again.ensures.turned.advances in
    advances_on g.C.Machine.table c.lawful.ensures c.args.task.now c.event.new.task c.run_from.new.task
    c.args.run.now c.event.new.run c.run_from.new.run c.args.stage c.in-Again.next (turn.Done c.run_from.result)
    a.same a.went c.run_from.ensures

pub returns-in-Locked : goal.returns-in-Locked
returns-in-Locked g c =
    let a = c.in-Locked.ensures.turned.advances in
    let r = c.run_from-in-Locked in
    advances_on g.C.Machine.table c.lawful.ensures c.args.task.now c.event.new.task r.new.task c.args.run.now
    c.event.new.run r.new.run c.args.stage c.in-Locked.next (turn.Done r.result) a.same
    (record { runs = a.went.runs; tells = a.went.tells; keeps = a.went.keeps }) r.ensures

pub returns-in-Asleep : goal.returns-in-Asleep
returns-in-Asleep g c =
    let a = c.in-Asleep.ensures.turned.advances in
    let r = c.run_from-in-Asleep in
    let b = advances_on g.C.Machine.table c.lawful.ensures c.args.task.now c.event.new.task c.rise.new.task
    c.args.run.now c.event.new.run c.event.new.run c.args.stage c.in-Asleep.next
    (turn.Again c.in-Asleep.next) a.same
    (record { runs = a.went.runs; tells = a.went.tells; keeps = a.went.keeps }) c.rise.ensures.rises in
    advances_on g.C.Machine.table c.lawful.ensures c.args.task.now c.rise.new.task r.new.task c.args.run.now
    c.event.new.run r.new.run c.args.stage c.in-Asleep.next (turn.Done r.result) b.same b.went r.ensures
