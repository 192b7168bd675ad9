use Rattle.std.proofs.Common.{sym, subst, arith}
use Rattle.wait_model.specs.declared.layout.TheConstants.{ENTRY_AT}
use Rattle.wait_model.specs.declared.steps.Step.TheVariants as step
use Rattle.wait_rule.specs.declared.journal.Item.TheVariants as item
use Rattle.wait_rule.specs.{Known.Known, Queues.IsLocked, Queues.index, PageCalls.HasTold}
use Rattle.wait_rule.proofs.{TableSteps.MemberMoves.index_at, TableSteps.PageMoves.handed_moves}
use Rattle.wait_rule.proofs.{KnownLaws.CarriedStores.entry_off, KnownLaws.StepCalls.may_step}
use Rattle.wait_rule.proofs.KnownLaws.StepCalls.{known_by}
use Rattle.wait_rule.proofs.pages.handed_unqueue.Goals as goal

pub store-requires : goal.store-requires
store-requires c =
    let told = subst (λ (k : Known). HasTold k c.args.who c.args.slot) (sym c.task.view_is) c.requires.told in
    may_step c.task.view_is c.requires.of c.domain.view_is c.domain.invariant
    (omega (arith, c.ranges.who, c.requires.slot, c.entry_at-at.ensures))
    (handed_moves _ _ _ c.task.invariant.1 (index c.args.who c.args.slot) _
    (omega (arith, c.ranges.who, c.requires.slot)) c.entry_at-at.ensures _ told.entry c.task.inside.seat.table_id
    (subst IsLocked (sym c.task.view_is) c.requires.held) told.shows told.told)

pub returns : goal.returns
returns c =
    let spot = index_at ENTRY_AT c.entry_at-at.result c.args.who c.args.slot c.entry_at-at.ensures in
    let now = known_by c.store.ensures.0 c.store.ensures.2 (λ j. item.Made (step.Unqueue (spot j))) c.task.view_is in
    record { step = now; carries = entry_off c.args.task.now _ _ now }
