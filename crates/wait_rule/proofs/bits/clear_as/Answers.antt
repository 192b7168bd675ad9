use Rattle.std.proofs.Common.{◌∙◌, sym, subst, arith}
use Rattle.wait_model.specs.declared.layout.TheConstants.{FIRST_BIT_WORD}
use Rattle.std.specs.Prelude.{◌+◌}
use Rattle.wait_model.specs.declared.watches.Watch.TheVariants as watch
use Rattle.wait_model.specs.declared.steps.Step.TheVariants as step
use Rattle.wait_model.proofs.WordLaws.CondWords.{cond_position}
use Rattle.wait_rule.specs.declared.journal.Item.TheVariants as item
use Rattle.wait_rule.specs.{Bits.KeepsBitOf, Known.Known, Known.known, Queues.IsIdle}
use Rattle.wait_rule.proofs.TableSteps.BitWordMoves.{bit_clear_moves}
use Rattle.wait_rule.proofs.KnownLaws.StepCalls.{may_step, known_by}
use Rattle.wait_rule.proofs.bits.clear_as.Goals as goal

pub fetch_and-requires : goal.fetch_and-requires
fetch_and-requires g c =
    let t = c.task.inside in
    let few = c.requires.word in
    let at = c.cond_at-at.ensures ∙ cond_position (FIRST_BIT_WORD + c.args.word) (omega arith) in
    let idle : IsIdle (known t.seat.table_id t.seat.me.0 t.head) =
    subst IsIdle (sym c.task.view_is) c.requires.idle in
    may_step c.task.view_is c.requires.of c.domain.view_is c.domain.invariant (omega arith)
    (bit_clear_moves _ _ _ c.task.invariant.1 c.args.word c.args.bit _ _ c.requires.watch c.requires.word
    c.requires.bit (omega arith) t.seat.table_id t.head idle.free.head idle.running
    (subst (λ (k : Known). KeepsBitOf k (watch.Bit c.args.word c.args.bit)) (sym c.task.view_is)
    c.requires.keeps))

pub returns : goal.returns
returns g c = (
  c.fetch_and.result,
  known_by c.fetch_and.ensures.0 c.fetch_and.ensures.2 (λ j. item.Made (step.Publish (sym c.requires.watch j) 0 c.fetch_and.result)) c.task.view_is,
)
