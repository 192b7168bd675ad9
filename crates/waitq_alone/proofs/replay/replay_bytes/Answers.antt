use Rattle.std.proofs.lemmas.Result.{err_from_is_err_and}
use Rattle.waitq_alone.proofs.Outcomes.{refused}
use Rattle.waitq_alone.proofs.replay.replay_bytes.Goals as goal

pub returns-in_err-script-clause-outcome : goal.returns-in_err-script-clause-outcome
returns-in_err-script-clause-outcome g c =
    let p = err_from_is_err_and c.from_residual.result c.from_residual.ensures.1 in
    rw (p.1, p.2) (refused c.args.bytes.now (g.O.Sink.held c.args.out.now) c.in_err-script.field-0.0
    c.requires c.in_err-script.ensures.script)
