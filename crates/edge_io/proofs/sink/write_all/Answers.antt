-- All of the text is held at `Ok`, and a front of it at `Err`.
use Rattle.edge_io.proofs.Prefix.{up_to}
use Rattle.edge_io.proofs.sink.write_all.Goals as goal

pub returns-clause-text : goal.returns-clause-text
returns-clause-text g c = up_to c.write_front.result.1 (g.K.Sink.held c.args.out.now) _ c.args.text.now
    c.write_front.result.0
    c.write_front.ensures.bytes c.write_front.ensures.all
