use Rattle.wait_class.proofs.Turns.{advances_on}
use Rattle.wait_class.proofs.runs.three_events.Goals as goal

pub returns-else-is_free : goal.returns-else-is_free
returns-else-is_free g c =
    let a = c.in-Again.ensures.turned.advances in
    advances_on g.C.Machine.table c.lawful.ensures c.args.task.now c.event.new.task c.two_events.new.task c.args.run.now
    c.event.new.run c.two_events.new.run c.args.stage c.in-Again.next c.two_events.result a.same a.went c.two_events.ensures
