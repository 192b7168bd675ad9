use Rattle.std.proofs.Common.{ap, ◌∙◌}
use Rattle.std.specs.Prelude.{[], ◌∷◌}
use Rattle.copy_plan.specs.{declared.stop.Stop.Stop, Kinds.copy_stop}
use Rattle.copy_ends.proofs.Whole.{ensured, numbers_are}
use Rattle.flow_copy.proofs.Words.{follows}
use Rattle.flow_copy.proofs.copy.copy_all.Goals as goal

pub returns : goal.returns
returns g c =
    let forks = c.fork_four-tasks in
    let made = c.in-Ok.made in
    let did = c.in-Ok.ensures in
    let reader = made.0.2 in
    let relay = made.1.1 in
    let writer = made.2.3 in
    let numbers = numbers_are c.args.domain.now forks.result.0 forks.result.1 forks.result.2 _ _ _ forks.ensures.one
    forks.ensures.two forks.ensures.three c.number.ensures.number c.number-2.ensures.number
    c.number-3.ensures.number in
    let e = ensured c.args.domain.now forks.result.0 forks.result.1 forks.result.2 forks.result.3 made.0.0
    made.1.0 made.2.0 made.3.0 forks.new.task c.join_four.new.task
    c.read_moved-moved.new.task _ _ _ _ _ _ _ _ _ _ _ _ _ reader relay writer made.3.1
    c.read_moved-moved.result c.copy_stop-stop.result _ numbers forks.ensures.one forks.ensures.two forks.ensures.three
    forks.ensures.four forks.ensures.rest did.reader did.relay did.writer
    did.controller did.ends c.join_four.ensures.joined c.join_four.ensures.law
    c.read_moved-moved.ensures.reads c.read_moved-moved.ensures.aside
    (c.copy_stop-stop.ensures ∙ ap (λ (s : Stop). copy_stop (reader.stop ∷ relay.stop ∷ writer.stop ∷ s ∷ [])
    reader.kills) c.control_stop.ensures) in
    record {
      copied = e.copied;
      goes = follows c.args.domain.now forks.result.0 forks.result.1 forks.result.2 forks.result.3 made.0.0 made.1.0
          made.2.0 made.3.0 c.read_moved-moved.new.task _ _ c.args.plan.now reader relay writer made.3.1 _ numbers
          forks.ensures.one forks.ensures.two forks.ensures.three forks.ensures.four did.reader_goes did.relay_goes
          did.writer_goes did.controller_goes e.lists;
      front = e.front;
      watched = e.watched;
      whole = e.whole;
      moved = e.moved;
      none_taken = e.none_taken;
      source = tt;
      sink = tt;
      watch = tt;
      idle = tt;
      clean = c.read_moved-moved.ensures.clean;
    }
