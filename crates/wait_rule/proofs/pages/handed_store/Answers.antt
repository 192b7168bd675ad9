use Rattle.std.proofs.Common.{sym, subst, arith}
use Rattle.wait_model.specs.declared.layout.TheConstants.{FLAG_AT}
use Rattle.wait_model.specs.declared.steps.Step.TheVariants as step
use Rattle.wait_rule.specs.declared.journal.Item.TheVariants as item
use Rattle.wait_rule.specs.{Known.Known, Queues.index, PageCalls.HasTaken}
use Rattle.wait_rule.proofs.{TableSteps.MemberMoves.index_at, TableSteps.PageMoves.tell_moves}
use Rattle.wait_rule.proofs.{KnownLaws.CarriedSteps.told_carried_on, KnownLaws.StepCalls.may_step}
use Rattle.wait_rule.proofs.KnownLaws.StepCalls.{known_by}
use Rattle.wait_rule.proofs.pages.handed_store.Goals as goal

pub store-requires : goal.store-requires
store-requires c = may_step c.task.view_is c.requires.of c.domain.view_is c.domain.invariant
    (omega (arith, c.ranges.who, c.requires.slot, c.flag_at-at.ensures))
    (tell_moves _ _ _ c.task.invariant.1 (index c.args.who c.args.slot) _ (omega (arith, c.ranges.who, c.requires.slot))
    c.flag_at-at.ensures
    (subst (λ (k : Known). HasTaken k c.args.who c.args.slot) (sym c.task.view_is) c.requires.taken))

pub returns : goal.returns
returns c =
    let spot = index_at FLAG_AT c.flag_at-at.result c.args.who c.args.slot c.flag_at-at.ensures in
    let now = known_by c.store.ensures.0 c.store.ensures.2 (λ j. item.Made (step.Handed (spot j))) c.task.view_is in
    record { step = now; carries = told_carried_on c.args.task.now _ _ now }
