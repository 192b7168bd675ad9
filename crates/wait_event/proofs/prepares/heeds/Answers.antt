use Rattle.std.proofs.Common.{◌∙◌, sym}
use Rattle.wait_model.specs.Tasks.{pending, task_of}
use Rattle.std.proofs.Common.{ap}
use Rattle.wait_event.proofs.PartSteps.{heeds_look, heeds_none}
use Rattle.wait_event.proofs.prepares.heeds.Goals as goal

pub returns-then-asks_one-clause-heeds : goal.returns-then-asks_one-clause-heeds
returns-then-asks_one-clause-heeds c = heeds_look c.args.part c.args.task.now c.load_own-own.new.task
    c.load_own-own.result.0 c.pending_state.result (sym c.asks_one.ensures ∙ c.if-asks_one.true)
    (c.pending_state.ensures ∙ ap (λ (σ : _). pending σ (task_of c.load_own-own.result.0)) c.mask.ensures)
    c.load_own-own.ensures.step c.load_own-own.ensures.carries

pub returns-clause-heeds : goal.returns-clause-heeds
returns-clause-heeds c = heeds_none c.args.part c.args.task.now (sym c.asks_one.ensures ∙ c.if-asks_one.false)
