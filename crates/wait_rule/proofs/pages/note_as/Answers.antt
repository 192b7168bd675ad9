use Rattle.std.proofs.Common.{◌∙◌, ap, sym, subst, arith}
use Rattle.std.specs.Prelude.{ℕ, ◌≡◌, Some}
use Rattle.wait_model.specs.declared.layout.TheConstants.{FLAG_AT}
use Rattle.wait_model.specs.declared.steps.Step.TheVariants as step
use Rattle.wait_rule.specs.declared.journal.Item.TheVariants as item
use Rattle.wait_rule.specs.{Asked.was_given_at, Known.Known, Known.known, Queues.index, PageCalls.QueuesNoPage}
use Rattle.wait_rule.specs.Says.{asks_for}
use Rattle.wait_rule.proofs.{TableSteps.MemberMoves.own_index, TableSteps.PageMoves.note_moves}
use Rattle.wait_rule.proofs.KnownLaws.StepCalls.{own_index_at, may_step, known_by}
use Rattle.wait_rule.proofs.pages.note_as.Goals as goal

pub store-requires : goal.store-requires
store-requires g c =
    let t = c.task.inside in
    let i = c.task.invariant in
    let small = i.5 in
    let slot = c.requires.slot in
    let at = c.flag_at-at.ensures in
    let same : t.seat.me.0.number ≡ t.number = i.2 in
    let spot : index c.args.task.now.view.number c.args.slot ≡ index t.number c.args.slot =
    ap (λ (u : ℕ). index u c.args.slot) (sym (ap (λ (k : Known). k.view.number) c.task.view_is) ∙ same) in
    let given : was_given_at (index t.number c.args.slot) (asks_for (known t.seat.table_id t.seat.me.0 t.head))
    ≡ Some c.args.word =
    subst (λ (k : Known). was_given_at (index t.number c.args.slot) (asks_for k) ≡ Some c.args.word) (sym c.task.view_is)
    (subst (λ (x : ℕ). was_given_at x (asks_for c.args.task.now) ≡ Some c.args.word) spot c.requires.given) in
    let off : QueuesNoPage (known t.seat.table_id t.seat.me.0 t.head) (index t.number c.args.slot) =
    subst (λ (k : Known). QueuesNoPage k (index t.number c.args.slot)) (sym c.task.view_is)
    (subst (QueuesNoPage c.args.task.now) spot c.requires.off) in
    may_step c.task.view_is c.requires.of c.domain.view_is c.domain.invariant (omega arith)
    (note_moves _ _ _ c.task.invariant.1 (index t.number c.args.slot) _ (omega arith) at
    (own_index t.number c.args.slot slot ∙ sym i.2) c.args.word _ c.flag_word_of-none.result t.seat.table_id
    c.requires.page c.flag_word_of-none.ensures given off)

pub returns : goal.returns
returns g c =
    let spot = own_index_at FLAG_AT c.flag_at-at.result c.task.inside.number c.args.slot c.flag_at-at.ensures
    c.task.invariant.2 c.task.view_is in
    known_by c.store.ensures.0 c.store.ensures.2
    (λ j. item.Made (step.Unflag (spot j) (Some (sym c.requires.page j)))) c.task.view_is
