use Rattle.std.proofs.Common.{◌∙◌, sym, arith}
use Rattle.wait_model.specs.declared.layout.TheConstants.{FLAG_AT}
use Rattle.wait_model.specs.declared.steps.Step.TheVariants as step
use Rattle.wait_rule.specs.declared.journal.Item.TheVariants as item
use Rattle.wait_rule.specs.Queues.{index}
use Rattle.wait_rule.proofs.{TableSteps.MemberMoves.own_index, TableSteps.FlagMoves.flag_load_moves}
use Rattle.wait_rule.proofs.KnownLaws.CarriedFlags.{flag_carried}
use Rattle.wait_rule.proofs.KnownLaws.StepCalls.{own_index_at, may_step, known_by}
use Rattle.wait_rule.proofs.flags.woken_load.Goals as goal

pub load-word-requires : goal.load-word-requires
load-word-requires c =
    let t = c.task.inside in
    let i = c.task.invariant in
    may_step c.task.view_is c.requires.of c.domain.view_is c.domain.invariant
    (omega (arith, i.5, c.requires.slot, c.flag_at-at.ensures))
    (flag_load_moves _ _ _ i.1 (index t.number c.args.slot) _ (omega (arith, i.5, c.requires.slot)) c.flag_at-at.ensures
    (own_index t.number c.args.slot c.requires.slot ∙ sym i.2))

pub returns : goal.returns
returns c =
    let word = c.load-word in
    let spot = own_index_at FLAG_AT c.flag_at-at.result c.task.inside.number c.args.slot c.flag_at-at.ensures
    c.task.invariant.2 c.task.view_is in
    let now = known_by word.ensures.0 word.ensures.2 (λ j. item.Made (step.Flag (spot j) word.result)) c.task.view_is in
    record {
      step = (word.result, now, c.flag_of.ensures);
      carries = flag_carried c.args.task.now _ _ word.result now;
    }
