use Rattle.std.proofs.Common.{subst, sym}
use Rattle.wait_class.specs.declared.stages.Turn.TheVariants as turn
use Rattle.wait_class.specs.Tables.{Went}
use Rattle.wait_class.proofs.{Falling.shown_behind, Turns.advances_on}
use Rattle.wait_class.proofs.events.advance.Goals as goal

pub returns-in-Draw-clause-turned : goal.returns-in-Draw-clause-turned
returns-in-Draw-clause-turned g c =
    let t = g.C.Machine.table in
    let d = c.draw_event-head.ensures.advances in
    let l = c.lock_event.ensures.turned in
    record {
      advances = advances_on t c.lawful.ensures c.args.task.now c.draw_event-head.new.task c.lock_event.new.task
          c.args.run.now c.draw_event-head.new.run c.lock_event.new.run c.args.stage c.drawn_to.result c.lock_event.result
          d.same
          (subst (λ n. Went t c.args.task.now c.draw_event-head.new.task c.args.run.now.of c.draw_event-head.new.run.of
          (turn.Again c.args.stage) (turn.Again n)) (sym c.drawn_to.ensures) d.went) l.advances;
      shows = shown_behind t c.args.task.now c.draw_event-head.new.task c.lock_event.new.task c.args.run.now
          c.draw_event-head.new.run c.lock_event.new.run c.draw_event-head.ensures.still c.draw_event-head.ensures.failed
          c.lock_event.result l.shows;
    }
