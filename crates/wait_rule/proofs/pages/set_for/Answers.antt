use Rattle.std.proofs.Common.{◌∙◌, sym, subst, arith}
use Rattle.std.specs.Prelude.{◌≡◌, ◌+◌, ◌-◌}
use Rattle.wait_model.specs.declared.layout.TheConstants.{CONDITION_AT, FIRST_BIT_WORD}
use Rattle.wait_model.specs.declared.steps.Step.TheVariants as step
use Rattle.wait_model.proofs.WordLaws.CondWords.{cond_position}
use Rattle.wait_rule.specs.declared.journal.Item.TheVariants as item
use Rattle.wait_rule.specs.{Known.Known, Known.known, Queues.IsAgreed, Queues.IsLocked, PageCalls.MayTryFor}
use Rattle.wait_rule.proofs.TableSteps.PageMoves.{try_for_moves}
use Rattle.wait_rule.proofs.KnownLaws.StepCalls.{may_step, known_by}
use Rattle.wait_rule.proofs.pages.set_for.Goals as goal

pub fetch_or-requires : goal.fetch_or-requires
fetch_or-requires g c =
    let t = c.task.inside in
    let few = c.requires.word in
    let at = c.cond_at-at.ensures ∙ cond_position (FIRST_BIT_WORD + c.args.word) (omega arith) in
    let m : MayTryFor (known t.seat.table_id t.seat.me.0 t.head) c.args.who c.args.slot c.args.word =
    subst (λ (k : Known). MayTryFor k c.args.who c.args.slot c.args.word) (sym c.task.view_is) c.requires.may in
    may_step c.task.view_is c.requires.of c.domain.view_is c.domain.invariant (omega arith)
    (try_for_moves _ _ _ c.task.invariant.1 _ _ c.args.word _ t.head m.entry t.seat.table_id c.requires.entry
    c.requires.word (omega arith) (subst IsLocked (sym c.task.view_is) c.requires.held) m.shows m.kind m.watch
    (subst IsAgreed (sym c.task.view_is) c.requires.agreed))

pub returns : goal.returns
returns g c =
    let at = c.cond_at-at.ensures ∙ cond_position (FIRST_BIT_WORD + c.args.word)
    (let few = c.requires.word in omega arith) in
    let word_is : c.cond_at-at.result - (CONDITION_AT + FIRST_BIT_WORD) ≡ c.args.word = omega arith in
    known_by c.fetch_or.ensures.0 c.fetch_or.ensures.2 (λ j. item.Made (step.TasFor (sym c.requires.entry j) (word_is j) c.fetch_or.result)) c.task.view_is
