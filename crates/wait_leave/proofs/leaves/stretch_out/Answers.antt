use Rattle.std.proofs.Common.{◌∙◌, arith, refl, sym}
use Rattle.wait_model.specs.{declared.layout.TheConstants.HEADS, PointFacts.holds}
use Rattle.wait_class.specs.declared.stages.Turn.TheVariants as turn
use Rattle.wait_class.proofs.Falling.{falls_by, held_yes, other_stops}
use Rattle.wait_class.proofs.Handed.{given_as, given_on, given_still}
use Rattle.wq_head.proofs.PassedOn.{none_yet}
use Rattle.wait_leave.proofs.Ways.{on_way_then, way_domain, way_lands, way_none, way_then}
use Rattle.wait_class.proofs.AwakeSteps.{sleeps_not_on, sleeps_not_same}
use Rattle.wait_leave.proofs.leaves.stretch_out.Goals as goal

pub loop-turn-init : goal.loop-turn-init
loop-turn-init g c = (
  record {
    way = way_none (Unit {0}) g.C.Machine.table g.C.Leavable.exits c.may_leave.ensures c.lawful.ensures
        c.args.task.now c.args.call.now c.args.stage c.requires.at;
    given = given_still c.args.task.now c.args.task.now refl;
    awake = sleeps_not_same c.args.task.now c.args.task.now refl;
    low = let d = c.lawful.ensures.depth c.args.stage in omega (arith, d);
  },
  c.requires.passes,
)

pub turn_out-requires-clause-of : goal.turn_out-requires-clause-of
turn_out-requires-clause-of g c = way_domain (Unit {0}) g.C.Machine.table g.C.Leavable.exits c.may_leave.ensures c.lawful.ensures
    c.args.task.now c.args.call.now c.args.stage c.loop-turn.task c.loop-turn.call
    (turn.Again c.loop-turn.at) c.loop-turn.invariant.0.way
    ∙ c.requires.of

pub turn_out-requires-clause-at : goal.turn_out-requires-clause-at
turn_out-requires-clause-at g c = way_lands (Unit {0}) g.C.Machine.table g.C.Leavable.exits c.may_leave.ensures c.lawful.ensures
    c.args.task.now c.args.call.now c.args.stage c.loop-turn.task c.loop-turn.call
    (turn.Again c.loop-turn.at) c.loop-turn.invariant.0.way

pub loop-turn-preserved : goal.loop-turn-preserved
loop-turn-preserved g c =
    let t = g.C.Machine.table in
    let i = c.loop-turn.invariant.0 in
    let e = c.in-Again.ensures in
    let next = c.in-Again.next in
    let held = held_yes (holds (t.point_of next)) c.is_free.result c.is_free.ensures c.if-is_free.false in
    let none = none_yet (holds (t.point_of next)) c.turn_out.new.passing held e.passes in
    let less = falls_by (holds (t.point_of next)) (t.depth next) (t.depth c.loop-turn.at) e.falls held in (
      record {
        way = way_then (Unit {0}) g.C.Machine.table g.C.Leavable.exits c.may_leave.ensures c.lawful.ensures
            c.args.task.now c.args.call.now c.args.stage c.loop-turn.task c.turn_out.new.task c.loop-turn.call c.turn_out.new.call c.loop-turn.at (turn.Again next) i.way e.way;
        given = given_on c.args.task.now c.loop-turn.task c.turn_out.new.task HEADS i.given
            (given_as c.loop-turn.task c.turn_out.new.task c.turn_out.new.passing.head HEADS (sym none) e.given);
        awake = sleeps_not_on c.args.task.now c.loop-turn.task c.turn_out.new.task i.awake e.awake;
        low = omega (arith, less, i.low);
      },
      none,
    )

pub returns-in_default-clause-stops : goal.returns-in_default-clause-stops
returns-in_default-clause-stops g c = other_stops g.C.Machine.table c.loop-turn.at c.turn_out.result
    c.in_default.not-Again c.turn_out.ensures.falls

pub returns-then-is_free-clause-way : goal.returns-then-is_free-clause-way
returns-then-is_free-clause-way g c = way_then _ _ _ c.may_leave.ensures c.lawful.ensures _ _ _ _ _ _ _ _ _
    c.loop-turn.invariant.0.way c.in-Again.ensures.way

pub returns-then-is_free-clause-given : goal.returns-then-is_free-clause-given
returns-then-is_free-clause-given g c = given_on _ _ _ _ c.loop-turn.invariant.0.given c.in-Again.ensures.given

pub returns-then-is_free-clause-under : goal.returns-then-is_free-clause-under
returns-then-is_free-clause-under g c p i = on_way_then c.may_leave.ensures c.lawful.ensures i (returns-then-is_free-clause-way g c)

pub returns-in_default-clause-way : goal.returns-in_default-clause-way
returns-in_default-clause-way g c = way_then _ _ _ c.may_leave.ensures c.lawful.ensures _ _ _ _ _ _ _ _ _
    c.loop-turn.invariant.0.way c.turn_out.ensures.way

pub returns-in_default-clause-given : goal.returns-in_default-clause-given
returns-in_default-clause-given g c = given_on _ _ _ _ c.loop-turn.invariant.0.given c.turn_out.ensures.given

pub returns-in_default-clause-under : goal.returns-in_default-clause-under
returns-in_default-clause-under g c p i = on_way_then c.may_leave.ensures c.lawful.ensures i (returns-in_default-clause-way g c)

pub returns-then-is_free-clause-awake : goal.returns-then-is_free-clause-awake
returns-then-is_free-clause-awake g c = sleeps_not_on _ _ _ c.loop-turn.invariant.0.awake
    c.in-Again.ensures.awake

pub returns-in_default-clause-awake : goal.returns-in_default-clause-awake
returns-in_default-clause-awake g c = sleeps_not_on _ _ _ c.loop-turn.invariant.0.awake c.turn_out.ensures.awake
