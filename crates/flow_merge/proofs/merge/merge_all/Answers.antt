use Rattle.std.proofs.Common.{ap, ◌∙◌}
use Rattle.std.specs.Prelude.{[], ◌∷◌}
use Rattle.copy_plan.specs.{declared.stop.Stop.Stop, Kinds.copy_stop}
use Rattle.flow_merge.specs.Merged.{Drawn, CrewEnds, SinkFilled, Five, drawn, ends_of, filled}
use Rattle.flow_merge.proofs.Whole.{ended_of, ensured, follows}
use Rattle.flow_merge.proofs.merge.merge_all.Goals as goal

pub returns : goal.returns
returns g c =
    let forks = c.fork_five in
    let made = c.in-Ok.made in
    let did = c.in-Ok.ensures in
    let first : Drawn = drawn (g.S.Source.left c.args.first) (g.S.Source.left made.0.1)
    (g.S.Source.faults c.args.first) (g.S.Source.faults made.0.1) in
    let second : Drawn = drawn (g.S.Source.left c.args.second) (g.S.Source.left made.1.1)
    (g.S.Source.faults c.args.second) (g.S.Source.faults made.1.1) in
    let into : SinkFilled = filled (g.K.Sink.held c.args.sink) (g.K.Sink.held made.3.1) (g.K.Sink.faults c.args.sink)
    (g.K.Sink.faults made.3.1) (g.K.Sink.wants c.args.sink) (g.K.Sink.wants made.3.1) in
    let ends : CrewEnds = ends_of made.0.2 made.1.2 made.2.1 made.3.3 in
    let five : Five = record {
      left = made.0.0;
      right = made.1.0;
      merger = made.2.0;
      writer = made.3.0;
      controller = made.4.0;
    } in
    let old = c.join_five.new.task in
    let new = c.read_moved-moved.new.task in
    let ended = ended_of c.args.domain.now forks.result.0 forks.result.1 forks.result.2 forks.result.3 forks.result.4
    five forks.new.task old new first second into ends made.4.1 c.read_moved-moved.result forks.ensures.one
    forks.ensures.two forks.ensures.three forks.ensures.four forks.ensures.five forks.ensures.rest did.left did.right
    did.merger did.writer did.controller did.counts c.join_five.ensures.joined c.join_five.ensures.law
    c.read_moved-moved.ensures.reads c.read_moved-moved.ensures.aside in
    let e = ensured c.args.domain.now five old new first second into ends made.4.1 c.read_moved-moved.result ended
    c.copy_stop-stop.result
    (c.copy_stop-stop.ensures ∙ ap (λ (s : Stop). copy_stop (made.0.2.stop ∷ made.1.2.stop ∷ made.2.1.stop
    ∷ made.3.3.stop ∷ s ∷ []) 0) c.control_stop.ensures) in
    record {
      merged = e.merged;
      goes = follows c.args.domain.now forks.result.0 forks.result.1 forks.result.2 forks.result.3 forks.result.4 five
          new first second ends made.4.1 forks.ensures.one forks.ensures.two forks.ensures.three forks.ensures.four
          forks.ensures.five did.left_goes did.right_goes did.merger_goes did.writer_goes did.controller_goes e.lists;
      front = e.front;
      whole = e.whole;
      moved = e.moved;
      stops = e.stops;
      unhurt = e.unhurt;
      first = tt;
      second = tt;
      sink = tt;
      idle = tt;
      clean = c.read_moved-moved.ensures.clean;
    }
