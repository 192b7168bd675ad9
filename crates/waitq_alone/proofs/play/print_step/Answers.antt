use Rattle.std.proofs.lemmas.Result.{err_from_is_err_and}
use Rattle.edge_io.proofs.Sending.{buffered, roomless}
use Rattle.waitq_alone.proofs.play.print_step.Goals as goal

pub returns-in_err-make_room-clause-text : goal.returns-in_err-make_room-clause-text
returns-in_err-make_room-clause-text g c =
    let p = err_from_is_err_and c.from_residual.result c.from_residual.ensures.1 in
    rw p.1 (roomless _ (g.K.Sink.held c.make_room.new.out) _ _ _ c.make_room.ensures.sent)

pub returns-clause-text : goal.returns-clause-text
returns-clause-text g c =
    buffered c.write_step.result _ (g.K.Sink.held c.make_room.new.out) _ _ _ _ c.make_room.ensures.sent
    c.write_step.ensures.text
