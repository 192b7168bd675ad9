use Rattle.std.proofs.Common.{◌∙◌, ap}
use Rattle.std.specs.Prelude.{◌+◌, ◌*◌}
use Rattle.wait_model.specs.declared.layout.TheConstants.{PIPE_ENDS}
use Rattle.wait_rule.specs.{Known.Known, PipeSays.end_at}
use Rattle.wait_rule.proofs.{TableSteps.PipeMoves.own_moves, KnownLaws.StepCalls.end_spot, KnownLaws.StepCalls.may_step}
use Rattle.wait_rule.proofs.pipes.own_load.Goals as goal

pub load-requires : goal.load-requires
load-requires c =
    let k = PIPE_ENDS * c.args.pipe + c.args.end in
    let spot = end_spot c.args.pipe c.args.end _ c.requires.pipe c.requires.end c.cond_at-at.ensures in
    may_step c.task.view_is c.requires.of c.domain.view_is c.domain.invariant spot.small
    (own_moves _ _ _ c.task.invariant.1 _ k spot.few
    (ap (λ (j : Known). (end_at k j).mine) c.task.view_is ∙ c.requires.mine) spot.is)
