use Rattle.std.proofs.Common.{◌∙◌}
use Rattle.wait_pipe.proofs.Turns.{got_later, got_then, then_rests}
use Rattle.wait_pipe.proofs.pieces.read_piece.Goals as goal

pub returns-in-None : goal.returns-in-None
returns-in-None g c =
    let w = c.in-None.ensures.turn in record {
      same = c.read_on.ensures.same ∙ c.read_turn.ensures.same;
      piece = got_then c.args.pipe w c.requires.settled c.read_on.new.task c.read_on.new.buf c.read_on.result c.read_on.ensures.piece;
      rests = then_rests w c.read_on.ensures.rests;
      goes = got_later c.in-None.ensures.goes c.read_on.ensures.goes;
    }
