use Rattle.std.proofs.lemmas.Result.{err_from_is_err_and}
use Rattle.edge_io.proofs.Sending.{roomless}
use Rattle.waitq_alone.proofs.play.print_end.Goals as goal

pub returns-in_err-flush-clause-text : goal.returns-in_err-flush-clause-text
returns-in_err-flush-clause-text g c =
    let p = err_from_is_err_and c.from_residual.result c.from_residual.ensures.1 in
    rw p.1 (roomless _ (g.K.Sink.held c.flush.new.out) _ _ _ c.flush.ensures.sent)
