use Rattle.std.proofs.Common.{sym, subst, arith}
use Rattle.std.specs.Prelude.{◌≡◌, ◌-◌}
use Rattle.wait_model.specs.declared.layout.TheConstants.{NEXT_AT}
use Rattle.wait_rule.specs.declared.journal.Item.TheVariants as item
use Rattle.wait_rule.specs.Says.{IsFree}
use Rattle.wait_rule.proofs.{TableSteps.TicketMoves.draw_moves, KnownLaws.CarriedSteps.drawn_carried}
use Rattle.wait_rule.proofs.{KnownLaws.StepCalls.may_step, KnownLaws.StepCalls.known_by}
use Rattle.wait_rule.proofs.tickets.draw.Goals as goal

pub fetch_add-requires : goal.fetch_add-requires
fetch_add-requires c =
    let head = c.requires.head in
    let at = c.next_at-at.ensures in
    let free = subst IsFree (sym c.task.view_is) c.requires.free in
    may_step c.task.view_is c.requires.of c.domain.view_is c.domain.invariant (omega arith)
    (draw_moves _ _ _ c.task.invariant.1 c.args.head _ head at free.ticket)

pub returns-clause-step : goal.returns-clause-step
returns-clause-step c =
    let e = c.fetch_add.ensures in
    let there : c.next_at-at.result - NEXT_AT ≡ c.args.head = (let at = c.next_at-at.ensures in omega arith) in
    known_by e.0 e.2 (λ j. item.Drawn (there j) c.fetch_add.result) c.task.view_is

pub returns-clause-carries : goal.returns-clause-carries
returns-clause-carries c = drawn_carried c.args.task.now _ c.args.head c.fetch_add.result (returns-clause-step c)
