use Rattle.std.proofs.Common.{◌∙◌, refl}
use Rattle.wait_class.specs.declared.stages.Turn.TheVariants as turn
use Rattle.wait_class.proofs.AwakeSteps.{sleeps_not_on, sleeps_not_same}
use Rattle.wait_leave.proofs.Ways.{way_again, way_domain, way_lands, way_none, way_then}
use Rattle.wait_leave.proofs.leaves.leave.Goals as goal

pub loop-init : goal.loop-init
loop-init g c = (
  way_none (Unit {0}) g.C.Machine.table g.C.Leavable.exits c.may_leave.ensures c.lawful.ensures
      c.args.task.now c.args.call.now c.args.stage c.requires.at,
  sleeps_not_same c.args.task.now c.args.task.now refl,
)

pub event_out-requires-clause-of : goal.event_out-requires-clause-of
event_out-requires-clause-of g c = way_domain (Unit {0}) g.C.Machine.table g.C.Leavable.exits c.may_leave.ensures c.lawful.ensures
    c.args.task.now c.args.call.now c.args.stage c.loop.task c.loop.call
    (turn.Again c.loop.at) c.loop.invariant.0 ∙ c.requires.of

pub event_out-requires-clause-at : goal.event_out-requires-clause-at
event_out-requires-clause-at g c = way_lands (Unit {0}) g.C.Machine.table g.C.Leavable.exits c.may_leave.ensures c.lawful.ensures
    c.args.task.now c.args.call.now c.args.stage c.loop.task c.loop.call
    (turn.Again c.loop.at) c.loop.invariant.0

pub loop-preserved-in-Again : goal.loop-preserved-in-Again
loop-preserved-in-Again g c = (
  way_then (Unit {0}) g.C.Machine.table g.C.Leavable.exits c.may_leave.ensures c.lawful.ensures
      c.args.task.now c.args.call.now c.args.stage c.loop.task c.event_out.new.task
      c.loop.call c.event_out.new.call c.loop.at (turn.Again c.in-Again.next) c.loop.invariant.0 c.in-Again.ensures.way,
  sleeps_not_on c.args.task.now c.loop.task c.event_out.new.task c.loop.invariant.1 c.in-Again.ensures.awake,
)

pub loop-preserved : goal.loop-preserved
loop-preserved g c = (
  way_again (Unit {0}) g.C.Machine.table g.C.Leavable.exits c.may_leave.ensures c.lawful.ensures
      c.args.task.now c.args.call.now c.args.stage c.event_out.new.task c.event_out.new.call
      c.in-Locked.next (way_then (Unit {0}) g.C.Machine.table g.C.Leavable.exits c.may_leave.ensures c.lawful.ensures
      c.args.task.now c.args.call.now c.args.stage c.loop.task
      c.event_out.new.task c.loop.call c.event_out.new.call c.loop.at (turn.Locked c.in-Locked.next) c.loop.invariant.0
      c.in-Locked.ensures.way),
  sleeps_not_on c.args.task.now c.loop.task c.event_out.new.task c.loop.invariant.1 c.in-Locked.ensures.awake,
)

pub returns-in-Done-clause-way : goal.returns-in-Done-clause-way
returns-in-Done-clause-way g c = way_then (Unit {0}) g.C.Machine.table g.C.Leavable.exits c.may_leave.ensures c.lawful.ensures
    c.args.task.now c.args.call.now c.args.stage c.loop.task c.event_out.new.task
    c.loop.call c.event_out.new.call c.loop.at (turn.Done c.in-Done.outcome) c.loop.invariant.0 c.in-Done.ensures.way

pub returns-in-Done-clause-awake : goal.returns-in-Done-clause-awake
returns-in-Done-clause-awake g c = sleeps_not_on c.args.task.now c.loop.task c.event_out.new.task c.loop.invariant.1
    c.in-Done.ensures.awake
