use Rattle.std.proofs.Common.{refl, sym, subst, arith}
use Rattle.wait_rule.specs.Queues.{HasGiven}
use Rattle.wait_rule.proofs.{TableSteps.TicketMoves.serve_moves, KnownLaws.CarriedSteps.served_carried}
use Rattle.wait_rule.proofs.{KnownLaws.StepCalls.may_step, KnownLaws.StepCalls.known_by}
use Rattle.wait_rule.proofs.tickets.serve.Goals as goal

pub fetch_add-requires : goal.fetch_add-requires
fetch_add-requires c = may_step c.task.view_is c.requires.of c.domain.view_is c.domain.invariant
    (omega (arith, c.task.invariant.7, c.serving_at-at.ensures))
    (serve_moves _ _ _ c.task.invariant.1 c.task.inside.head _ c.task.invariant.7 c.serving_at-at.ensures
    (subst HasGiven (sym c.task.view_is) c.requires.given))

pub returns-clause-served : goal.returns-clause-served
returns-clause-served c = known_by c.fetch_add.ensures.0 c.fetch_add.ensures.2 refl c.task.view_is

pub returns-clause-carries : goal.returns-clause-carries
returns-clause-carries c = served_carried c.args.task.now _ (returns-clause-served c)
