use Rattle.wait_class.proofs.Turns.{advances_on}
use Rattle.wait_class.proofs.runs.two_events.Goals as goal

pub returns-else-is_free : goal.returns-else-is_free
returns-else-is_free g c =
    let a = c.in-Again.ensures.turned.advances in
    advances_on g.C.Machine.table c.lawful.ensures c.args.task.now c.event.new.task c.event-in-Again.new.task c.args.run.now
    c.event.new.run c.event-in-Again.new.run c.args.stage c.in-Again.next c.event-in-Again.result a.same a.went c.event-in-Again.ensures.turned.advances
