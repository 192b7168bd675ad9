use Rattle.std.proofs.Common.{◌∙◌, arith, inl, inr, refl, sym}
use Rattle.wait_model.specs.{PointFacts.holds, declared.layout.TheConstants.HEADS}
use Rattle.wait_class.specs.declared.stages.Turn.TheVariants as turn
use Rattle.wait_class.proofs.Falling.{falls_by, held_yes, goes_made, goes_shown, other_shown, other_stops}
use Rattle.wait_class.proofs.Turns.{advances_none, advances_on, same_domain}
use Rattle.wait_class.proofs.UnderWay.{came_on, under_on}
use Rattle.wait_class.proofs.Handed.{given_as, given_on, given_still}
use Rattle.wq_head.proofs.PassedOn.{none_yet}
use Rattle.wait_class.proofs.runs.stretch.Goals as goal

pub loop-turn-init : goal.loop-turn-init
loop-turn-init g c = (
  record {
    way = advances_none g.C.Machine.table c.lawful.ensures c.args.task.now c.args.run.now c.args.stage c.requires.at;
    begun = inl (refl, refl);
    given = given_still c.args.task.now c.args.task.now refl;
    low = let d = c.lawful.ensures.depth c.args.stage in omega (arith, d);
  },
  c.requires.passes,
)

pub loop-turn-preserved : goal.loop-turn-preserved
loop-turn-preserved g c =
    let t = g.C.Machine.table in
    let i = c.loop-turn.invariant.0 in
    let e = c.in-Again.ensures in
    let next = c.in-Again.next in
    let held = held_yes (holds (t.point_of next)) c.is_free.result c.is_free.ensures c.if-is_free.false in
    let none = none_yet (holds (t.point_of next)) c.advance.new.passing held e.passes in
    let less = falls_by (holds (t.point_of next)) (t.depth next) (t.depth c.loop-turn.at)
    e.falls
    held in (
      record {
        way = advances_on g.C.Machine.table c.lawful.ensures c.args.task.now c.loop-turn.task c.advance.new.task c.args.run.now
            c.loop-turn.run c.advance.new.run c.args.stage c.loop-turn.at (turn.Again next) i.way.same i.way.went
            e.turned.advances;
        begun = inr (goes_made t c.args.task.now c.loop-turn.task c.advance.new.task c.args.run.now c.loop-turn.run
            c.advance.new.run next i.begun e.turned.shows held);
        given = given_on c.args.task.now c.loop-turn.task c.advance.new.task HEADS i.given
            (given_as c.loop-turn.task c.advance.new.task c.advance.new.passing.head HEADS (sym none) e.given);
        low = omega (arith, less, i.low);
      },
      none,
    )

pub returns-then-is_free-clause-turned : goal.returns-then-is_free-clause-turned
returns-then-is_free-clause-turned g c =
    let i = c.loop-turn.invariant.0 in
    record {
      advances = advances_on g.C.Machine.table c.lawful.ensures c.args.task.now c.loop-turn.task c.advance.new.task c.args.run.now
          c.loop-turn.run c.advance.new.run c.args.stage c.loop-turn.at (turn.Again c.in-Again.next) i.way.same
          i.way.went c.in-Again.ensures.turned.advances;
      shows = goes_shown g.C.Machine.table c.args.task.now c.loop-turn.task c.advance.new.task c.args.run.now
          c.loop-turn.run c.advance.new.run c.in-Again.next i.begun c.in-Again.ensures.turned.shows;
    }

pub returns-in_default-clause-turned : goal.returns-in_default-clause-turned
returns-in_default-clause-turned g c =
    let t = g.C.Machine.table in
    let i = c.loop-turn.invariant.0 in
    let e = c.advance.ensures.turned in record {
      advances = advances_on t c.lawful.ensures c.args.task.now c.loop-turn.task c.advance.new.task c.args.run.now
          c.loop-turn.run c.advance.new.run c.args.stage c.loop-turn.at c.advance.result i.way.same i.way.went e.advances;
      shows = other_shown t c.args.task.now c.loop-turn.task c.advance.new.task c.args.run.now c.loop-turn.run
          c.advance.new.run i.begun c.advance.result c.in_default.not-Again e.shows;
    }

pub returns-in_default-clause-stops : goal.returns-in_default-clause-stops
returns-in_default-clause-stops g c = other_stops g.C.Machine.table c.loop-turn.at c.advance.result
    c.in_default.not-Again c.advance.ensures.falls

pub returns-then-is_free-clause-given : goal.returns-then-is_free-clause-given
returns-then-is_free-clause-given g c = given_on c.args.task.now c.loop-turn.task c.advance.new.task c.advance.new.passing.head
    c.loop-turn.invariant.0.given c.in-Again.ensures.given

pub returns-in_default-clause-given : goal.returns-in_default-clause-given
returns-in_default-clause-given g c = given_on c.args.task.now c.loop-turn.task c.advance.new.task c.advance.new.passing.head
    c.loop-turn.invariant.0.given c.advance.ensures.given

pub returns-then-is_free-clause-under : goal.returns-then-is_free-clause-under
returns-then-is_free-clause-under g c = λ p i. under_on g.C.Machine.table c.lawful.ensures p c.args.task.now
    c.advance.new.task c.args.run.now c.advance.new.run c.args.stage (turn.Again c.in-Again.next) i
    (returns-then-is_free-clause-turned g c).advances

pub returns-in_default-clause-under : goal.returns-in_default-clause-under
returns-in_default-clause-under g c = λ p i. under_on g.C.Machine.table c.lawful.ensures p c.args.task.now
    c.advance.new.task c.args.run.now c.advance.new.run c.args.stage c.advance.result i
    (returns-in_default-clause-turned g c).advances

pub returns-then-is_free-clause-came : goal.returns-then-is_free-clause-came
returns-then-is_free-clause-came g c = λ start f s a. came_on g.C.Machine.table c.lawful.ensures start c.args.task.now
    c.advance.new.task f c.args.run.now c.advance.new.run s c.args.stage (turn.Again c.in-Again.next) a
    (returns-then-is_free-clause-turned g c).advances

pub returns-in_default-clause-came : goal.returns-in_default-clause-came
returns-in_default-clause-came g c = λ start f s a. came_on g.C.Machine.table c.lawful.ensures start c.args.task.now
    c.advance.new.task f c.args.run.now c.advance.new.run s c.args.stage c.advance.result a
    (returns-in_default-clause-turned g c).advances

pub returns-in_default-clause-of : goal.returns-in_default-clause-of
returns-in_default-clause-of g c = same_domain g.C.Machine.table c.lawful.ensures c.args.task.now c.advance.new.task
    c.args.run.now.of c.advance.new.run.of (turn.Again c.args.stage) c.advance.result
    (returns-in_default-clause-turned g c).advances.went
    ∙ c.requires.of
