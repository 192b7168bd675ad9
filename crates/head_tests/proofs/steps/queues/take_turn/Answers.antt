use Rattle.std.proofs.Common.{◌∙◌, ap, eqb-true}
use Rattle.wait_rule.specs.Known.{Known}
use Rattle.wait_rule.proofs.KnownLaws.Turns.{finds_turn}
use Rattle.head_tests.proofs.steps.queues.take_turn.Goals as goal

pub returns-clause-turn : goal.returns-clause-turn
returns-clause-turn c same = finds_turn c.draw-ticket.new.task c.serving_load.new.task c.args.head c.draw-ticket.result
    c.serving_load.result (ap (λ (k : Known). k.book.ticket) c.draw-ticket.ensures.step) c.serving_load.ensures.step
    (eqb-true _ _ same)

pub serving_load-requires-clause-up : goal.serving_load-requires-clause-up
serving_load-requires-clause-up c = ap (λ (k : Known). k.book.awake) c.draw-ticket.ensures.step ∙ c.requires.up
