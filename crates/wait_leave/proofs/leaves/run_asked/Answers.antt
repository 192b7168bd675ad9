use Rattle.std.proofs.Common.{subst}
use Rattle.std.specs.Prelude.{true}
use Rattle.wait_class.specs.declared.stages.Turn.TheVariants as turn
use Rattle.wait_class.proofs.Turns.{advances_none, advances_on, again}
use Rattle.wait_class.proofs.UnderWay.{woke_on}
use Rattle.wait_leave.specs.OnTheWay.{straight}
use Rattle.wait_leave.proofs.Ways.{way_for, way_then}
use Rattle.wait_leave.proofs.leaves.run_asked.Goals as goal

pub loop-init : goal.loop-init
loop-init g c = advances_none g.C.Machine.table c.lawful.ensures c.args.task.now c.args.call.now c.args.stage
    c.requires.at

pub returns-then-asked : goal.returns-then-asked
returns-then-asked g c = way_then (g.Q.Fn.post c.args.asks tt true) g.C.Machine.table g.C.Leavable.exits c.may_leave.ensures c.lawful.ensures
    c.args.task.now c.args.call.now c.args.stage c.loop.task c.leave.new.task c.loop.call c.leave.new.call c.loop.at
    (turn.Done c.leave.result) (straight c.loop.task c.loop.call (turn.Again c.loop.at) c.loop.invariant)
    (way_for (g.Q.Fn.post c.args.asks tt true) (subst (g.Q.Fn.post c.args.asks tt) c.if-asked.true c.asks-asked.ensures)
    g.C.Machine.table g.C.Leavable.exits c.loop.task c.loop.call c.loop.at c.leave.new.task c.leave.new.call
    (turn.Done c.leave.result) c.leave.ensures.way)

pub loop-preserved-in-Again : goal.loop-preserved-in-Again
loop-preserved-in-Again g c =
    let i = c.loop.invariant in
    advances_on g.C.Machine.table c.lawful.ensures c.args.task.now c.loop.task c.event.new.task c.args.call.now
    c.loop.call c.event.new.run c.args.stage c.loop.at (turn.Again c.in-Again.next) i.same i.went
    c.in-Again.ensures.turned.advances

pub loop-preserved-in-Asleep : goal.loop-preserved-in-Asleep
loop-preserved-in-Asleep g c =
    let i = c.loop.invariant in
    woke_on g.C.Machine.table c.lawful.ensures c.args.task.now c.event.new.task c.rise.new.task c.args.call.now
    c.event.new.run c.event.new.run c.args.stage c.in-Asleep.next (turn.Again c.in-Asleep.next)
    (advances_on g.C.Machine.table c.lawful.ensures c.args.task.now c.loop.task c.event.new.task c.args.call.now
    c.loop.call c.event.new.run c.args.stage c.loop.at (turn.Asleep c.in-Asleep.next) i.same i.went
    c.in-Asleep.ensures.turned.advances) c.rise.ensures.rises

pub loop-preserved : goal.loop-preserved
loop-preserved g c =
    let i = c.loop.invariant in
    again g.C.Machine.table c.args.task.now c.event.new.task c.args.call.now c.event.new.run c.args.stage
    c.in-Locked.next
    (advances_on g.C.Machine.table c.lawful.ensures c.args.task.now c.loop.task c.event.new.task c.args.call.now
    c.loop.call c.event.new.run c.args.stage c.loop.at (turn.Locked c.in-Locked.next) i.same i.went
    c.in-Locked.ensures.turned.advances)

pub returns-in-Done : goal.returns-in-Done
returns-in-Done g c =
    let i = c.loop.invariant in
    straight c.event.new.task c.event.new.run (turn.Done c.in-Done.outcome)
    (advances_on g.C.Machine.table c.lawful.ensures c.args.task.now c.loop.task c.event.new.task c.args.call.now
    c.loop.call c.event.new.run c.args.stage c.loop.at (turn.Done c.in-Done.outcome) i.same i.went
    c.in-Done.ensures.turned.advances)
