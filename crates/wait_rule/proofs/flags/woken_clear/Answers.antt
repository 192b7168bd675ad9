use Rattle.std.proofs.Common.{◌∙◌, sym, subst, arith}
use Rattle.std.specs.Prelude.{ℕ, ◌≡◌, ◌⊎◌, Some, None}
use Rattle.wait_model.specs.{declared.layout.TheConstants.FLAG_AT, declared.watches.Entry.Entry}
use Rattle.wait_model.specs.declared.watches.Kind.TheVariants as kind
use Rattle.wait_model.specs.declared.steps.Step.TheVariants as step
use Rattle.wait_rule.specs.declared.journal.Item.TheVariants as item
use Rattle.wait_rule.specs.{Asked.nothing_asked, Known.Known, Known.known, Queues.index, Queues.MayClearFlag}
use Rattle.wait_rule.specs.{Says.asks_for, Says.told_of}
use Rattle.wait_rule.proofs.{TableSteps.MemberMoves.own_index, TableSteps.FlagMoves.unflag_moves}
use Rattle.wait_rule.proofs.KnownLaws.CarriedFlags.{unflag_carried}
use Rattle.wait_rule.proofs.KnownLaws.StepCalls.{own_index_at, may_step, known_by}
use Rattle.wait_rule.proofs.flags.woken_clear.Goals as goal

pub store-requires : goal.store-requires
store-requires c =
    let t = c.task.inside in
    let i = c.task.invariant in
    let may : MayClearFlag (known t.seat.table_id t.seat.me.0 t.head) c.args.slot =
    subst (λ (k : Known). MayClearFlag k c.args.slot) (sym c.task.view_is) c.requires.may in
    may_step c.task.view_is c.requires.of c.domain.view_is c.domain.invariant
    (omega (arith, i.5, c.requires.slot, c.flag_at-at.ensures))
    (unflag_moves _ _ _ i.1 (index t.number c.args.slot) _ (omega (arith, i.5, c.requires.slot)) c.flag_at-at.ensures
    (own_index t.number c.args.slot c.requires.slot ∙ sym i.2) c.flag_word_of-word.result t.seat.table_id
    c.flag_word_of-word.ensures
    (subst (λ (u : ℕ). (asks_for (known t.seat.table_id t.seat.me.0 t.head) ≡ nothing_asked) ⊎ ((e : Entry)
    × ((told_of (known t.seat.table_id t.seat.me.0 t.head)).bits.stored (index u c.args.slot) ≡ Some e)
    × (e.kind ≡ kind.Woken))) i.2 may))

pub returns : goal.returns
returns c =
    let spot = own_index_at FLAG_AT c.flag_at-at.result c.task.inside.number c.args.slot c.flag_at-at.ensures
    c.task.invariant.2 c.task.view_is in
    let now = known_by c.store.ensures.0 c.store.ensures.2 (λ j. item.Made (step.Unflag (spot j) None)) c.task.view_is
    in
    record { step = now; carries = unflag_carried c.args.task.now _ _ now }
