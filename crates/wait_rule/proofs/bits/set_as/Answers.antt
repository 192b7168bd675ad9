use Rattle.std.proofs.Common.{◌∙◌, sym, subst, arith}
use Rattle.wait_model.specs.declared.layout.TheConstants.{FIRST_BIT_WORD}
use Rattle.std.specs.Prelude.{◌+◌}
use Rattle.wait_model.specs.declared.steps.Step.TheVariants as step
use Rattle.wait_model.proofs.WordLaws.CondWords.{cond_position}
use Rattle.wait_rule.specs.declared.journal.Item.TheVariants as item
use Rattle.wait_rule.specs.Queues.{IsAgreedHold}
use Rattle.wait_rule.proofs.TableSteps.BitWordMoves.{bit_set_moves}
use Rattle.wait_rule.proofs.KnownLaws.StepCalls.{may_step, known_by}
use Rattle.wait_rule.proofs.bits.set_as.Goals as goal

pub fetch_or-requires : goal.fetch_or-requires
fetch_or-requires g c =
    let few = c.requires.word in
    let at = c.cond_at-at.ensures ∙ cond_position (FIRST_BIT_WORD + c.args.word) (omega arith) in
    may_step c.task.view_is c.requires.of c.domain.view_is c.domain.invariant (omega arith)
    (bit_set_moves _ _ _ c.task.invariant.1 c.args.word c.args.bit _ _ c.requires.watch c.requires.word
    c.requires.bit (omega arith) (subst IsAgreedHold (sym c.task.view_is) c.requires.agreed))

pub returns : goal.returns
returns g c = known_by c.fetch_or.ensures.0 c.fetch_or.ensures.2 (λ j. item.Made (step.Consume (sym c.requires.watch j) 1 c.fetch_or.result)) c.task.view_is
