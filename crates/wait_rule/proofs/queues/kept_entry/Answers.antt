use Rattle.std.proofs.Common.{refl, sym, subst, arith}
use Rattle.std.specs.Prelude.{ℕ, ◌≡◌, Some}
use Rattle.wait_model.specs.declared.layout.TheConstants.{ENTRY_AT}
use Rattle.wait_rule.specs.{Known.Known, Known.known, Queues.index, Queues.KnewEntry, Says.told_of}
use Rattle.wait_rule.proofs.TableSteps.MemberMoves.{index_at, kept_moves}
use Rattle.wait_rule.proofs.KnownLaws.StepCalls.{may_step}
use Rattle.wait_rule.proofs.queues.kept_entry.Goals as goal

pub load-requires : goal.load-requires
load-requires c = may_step c.task.view_is c.requires.of c.domain.view_is c.domain.invariant
    (omega (arith, c.requires.slot, c.entry_at-at.ensures))
    (kept_moves _ _ _ c.task.invariant.1 (index c.task.inside.number c.args.slot) _
    (omega (arith, c.task.invariant.5, c.requires.slot)) c.entry_at-at.ensures)

pub returns-clause-tells : goal.returns-clause-tells
returns-clause-tells c e stored own =
    let m = c.task.inside.seat.me.0 in
    let d = c.task.inside.seat.table_id in
    let shows = λ (x : ℕ). KnewEntry (known d m 0) x c.load.result in
    let knew : shows (index m.number c.args.slot) =
    subst (λ (n : ℕ). shows (index n c.args.slot)) (sym c.task.invariant.2)
    (subst shows (index_at ENTRY_AT c.entry_at-at.result c.task.inside.number c.args.slot c.entry_at-at.ensures)
    (c.load.ensures.2.1 d)) in
    knew.stands c.args.slot c.requires.slot refl e
    (subst (λ (k : Known). (told_of k).bits.stored (index k.view.number c.args.slot) ≡ Some e) (sym c.task.view_is)
    stored) own
