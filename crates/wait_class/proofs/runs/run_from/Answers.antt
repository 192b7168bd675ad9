use Rattle.wait_class.specs.declared.stages.Turn.TheVariants as turn
use Rattle.wait_class.proofs.Turns.{advances_none, advances_on, again}
use Rattle.wait_class.proofs.runs.run_from.Goals as goal

pub loop-init : goal.loop-init
loop-init g c = advances_none g.C.Machine.table c.lawful.ensures c.args.task.now c.args.run.now c.args.stage
    c.requires.at

pub loop-preserved-in-Again : goal.loop-preserved-in-Again
loop-preserved-in-Again g c =
    let i = c.loop.invariant in
    advances_on g.C.Machine.table c.lawful.ensures c.args.task.now c.loop.task c.three_events.new.task c.args.run.now
    c.loop.run c.three_events.new.run c.args.stage c.loop.at (turn.Again c.in-Again.next) i.same i.went
    c.in-Again.ensures

pub loop-preserved-in-Asleep : goal.loop-preserved-in-Asleep
loop-preserved-in-Asleep g c =
    let i = c.loop.invariant in
    let a = advances_on g.C.Machine.table c.lawful.ensures c.args.task.now c.loop.task c.three_events.new.task c.args.run.now
    c.loop.run c.three_events.new.run c.args.stage c.loop.at (turn.Asleep c.in-Asleep.next) i.same
    i.went c.in-Asleep.ensures in
    advances_on g.C.Machine.table c.lawful.ensures c.args.task.now c.three_events.new.task c.rise.new.task
    c.args.run.now c.three_events.new.run c.three_events.new.run c.args.stage c.in-Asleep.next
    (turn.Again c.in-Asleep.next) a.same
    (record { runs = a.went.runs; tells = a.went.tells; keeps = a.went.keeps }) c.rise.ensures.rises

pub loop-preserved : goal.loop-preserved
loop-preserved g c =
    let i = c.loop.invariant in
    again g.C.Machine.table c.args.task.now c.three_events.new.task c.args.run.now c.three_events.new.run c.args.stage
    c.in-Locked.next
    (advances_on g.C.Machine.table c.lawful.ensures c.args.task.now c.loop.task c.three_events.new.task c.args.run.now
    c.loop.run c.three_events.new.run c.args.stage c.loop.at (turn.Locked c.in-Locked.next) i.same
    i.went c.in-Locked.ensures)

pub returns-in-Done : goal.returns-in-Done
returns-in-Done g c =
    let i = c.loop.invariant in
    advances_on g.C.Machine.table c.lawful.ensures c.args.task.now c.loop.task c.three_events.new.task c.args.run.now
    c.loop.run c.three_events.new.run c.args.stage c.loop.at (turn.Done c.in-Done.outcome) i.same i.went
    c.in-Done.ensures
