use Rattle.std.proofs.Common.{arith}
use Rattle.std.specs.Prelude.{◌≡◌, ◌-◌}
use Rattle.wait_model.specs.declared.layout.TheConstants.{SERVING_AT}
use Rattle.wait_rule.specs.declared.journal.Item.TheVariants as item
use Rattle.wait_rule.proofs.{TableSteps.TicketMoves.serving_moves, KnownLaws.CarriedSteps.serving_carried}
use Rattle.wait_rule.proofs.{KnownLaws.StepCalls.may_step, KnownLaws.StepCalls.known_by}
use Rattle.wait_rule.proofs.tickets.serving_load.Goals as goal

pub load-requires : goal.load-requires
load-requires c =
    let head = c.requires.head in
    let at = c.serving_at-at.ensures in
    may_step c.task.view_is c.requires.of c.domain.view_is c.domain.invariant (omega arith)
    (serving_moves _ _ _ c.task.invariant.1 c.args.head _ head at)

pub returns-clause-step : goal.returns-clause-step
returns-clause-step c =
    let e = c.load.ensures in
    let there : c.serving_at-at.result - SERVING_AT ≡ c.args.head =
    (let at = c.serving_at-at.ensures in omega arith) in
    known_by e.0 e.2.0 (λ j. item.Serving (there j) c.load.result) c.task.view_is

pub returns-clause-carries : goal.returns-clause-carries
returns-clause-carries c = serving_carried c.args.task.now _ c.args.head c.load.result (returns-clause-step c)
