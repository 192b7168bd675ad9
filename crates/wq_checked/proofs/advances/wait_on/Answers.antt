use Rattle.std.proofs.Common.{subst}
use Rattle.std.specs.Prelude.{◌||◌, Bool}
use Rattle.wait_class.specs.Wholes.{HasRested}
use Rattle.wq_checked.specs.{Advancing.left_by, Advancing.shown_of_wait}
use Rattle.wq_checked.proofs.Going.{went_as}
use Rattle.wq_checked.proofs.advances.wait_on.Goals as goal

pub returns-clause-goes : goal.returns-clause-goes
returns-clause-goes g c may start first came =
    let t = c.ground_turn-turn in
    went_as (c.args.asks || may) start first c.rest.new.task c.wait_leaves.result.0
    (left_by g.C.Kind.kind t.new.run t.result) c.wait_leaves.result.1 (shown_of_wait g.C.Kind.kind t.new.run t.result)
    c.wait_leaves.ensures.left c.wait_leaves.ensures.shown
    (c.is_kind.ensures.goes c.args.asks may start first c.args.task.now t.new.task c.rest.new.task c.args.run t.new.run
    c.args.last t.result
    (c.is_kind.ensures.stands c.args.kept.now c.args.task.now c.args.run c.args.last c.requires.sound) came
    t.ensures.goes (subst (λ (b : Bool). HasRested t.new.task c.rest.new.task b) c.is_worn.ensures c.rest.ensures))

pub returns-clause-asks : goal.returns-clause-asks
returns-clause-asks g c asked =
    let t = c.ground_turn-turn in
    c.is_kind.ensures.out c.args.task.now c.rest.new.task c.args.run c.args.last c.wait_leaves.result.0
    c.wait_leaves.result.1 (record {
      ended = t.new.task;
      run = t.new.run;
      to = t.result;
      out = t.ensures.asks asked;
      rests = subst (λ (b : Bool). HasRested t.new.task c.rest.new.task b) c.is_worn.ensures c.rest.ensures;
      is = c.wait_leaves.ensures.left;
      tells = c.wait_leaves.ensures.shown;
    })
