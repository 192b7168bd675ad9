use Rattle.wait_pipe.proofs.Turns.{put_then, then_rests, wrote_later}
use Rattle.wait_pipe.proofs.pieces.write_piece.Goals as goal

pub returns-in-None : goal.returns-in-None
returns-in-None g c =
    let w = c.in-None.ensures.turn in record {
      piece = put_then c.args.pipe w c.requires.settled c.write_on.new.task c.args.bytes.now c.write_on.result c.write_on.ensures.piece;
      rests = then_rests w c.write_on.ensures.rests;
      goes = wrote_later c.in-None.ensures.goes c.write_on.ensures.goes;
    }
