use Rattle.waitq_alone.proofs.Outcomes.{of_input}
use Rattle.waitq_alone.proofs.replay.replay.Goals as goal

pub returns-clause-outcome : goal.returns-clause-outcome
returns-clause-outcome g c =
    of_input (g.I.Source.left c.args.input.now) _ c.deref.result.now _ _ c.replay_bytes.result
    c.in_ok-bytes.ensures.whole c.deref.ensures.value c.replay_bytes.ensures.outcome
