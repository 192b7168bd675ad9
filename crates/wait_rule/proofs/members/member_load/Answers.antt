use Rattle.std.proofs.Common.{◌∙◌, refl, ap, arith}
use Rattle.std.specs.Prelude.{◌≡◌, ◌-◌, ◌/◌, ◌%◌}
use Rattle.wait_model.specs.declared.layout.TheConstants.{MEMBER_WORDS, MEMBER_AT}
use Rattle.wait_model.specs.declared.steps.Step.TheVariants as step
use Rattle.wait_rule.specs.declared.journal.Item.TheVariants as item
use Rattle.wait_rule.specs.Known.{Known}
use Rattle.wait_rule.proofs.{TableSteps.ScanMoves.scan_moves, KnownLaws.LookCounts.looked_one}
use Rattle.wait_rule.proofs.{KnownLaws.CarriedTasks.scan_carried, KnownLaws.StepCalls.may_step}
use Rattle.wait_rule.proofs.KnownLaws.StepCalls.{known_by}
use Rattle.wait_rule.proofs.members.member_load.Goals as goal

pub load-requires : goal.load-requires
load-requires c = may_step c.task.view_is c.requires.of c.domain.view_is c.domain.invariant
    (omega (arith, c.requires.head, c.requires.word, c.member_at-at.ensures))
    (scan_moves _ _ _ c.task.invariant.1 c.args.head c.args.i _ c.requires.head c.requires.word c.member_at-at.ensures
    (ap (λ (k : Known). k.book.head) c.task.view_is ∙ c.requires.out))

pub returns-clause-step : goal.returns-clause-step
returns-clause-step c =
    let e = c.load.ensures in
    let word = c.requires.word in
    let at = c.member_at-at.ensures in
    let head_is : (c.member_at-at.result - MEMBER_AT) / MEMBER_WORDS ≡ c.args.head = omega arith in
    let word_is : (c.member_at-at.result - MEMBER_AT) % MEMBER_WORDS ≡ c.args.i = omega arith in
    known_by e.0 e.2 (λ j. item.Made (step.Scan (head_is j) (word_is j) c.load.result)) c.task.view_is

pub returns-clause-looks : goal.returns-clause-looks
returns-clause-looks c = looked_one c.args.task.now _ (item.Made (step.Scan c.args.head c.args.i c.load.result))
    (λ n. refl) (returns-clause-step c)

pub returns-clause-carries : goal.returns-clause-carries
returns-clause-carries c = scan_carried c.args.task.now _ c.args.head c.args.i c.load.result (returns-clause-step c)
