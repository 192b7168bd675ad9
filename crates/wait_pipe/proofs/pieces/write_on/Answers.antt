use Rattle.wait_pipe.proofs.Turns.{put_then, then_rests, turning_on, wrote_piece}
use Rattle.wait_pipe.proofs.pieces.write_on.Goals as goal

pub loop-preserved : goal.loop-preserved
loop-preserved g c = turning_on c.loop.invariant c.in-None-write_turn.ensures.turn c.in-None-write_turn.ensures.goes

pub returns-in-Some-write_turn : goal.returns-in-Some-write_turn
returns-in-Some-write_turn g c =
    let t = c.loop.invariant in
    let s = c.in-Some-write_turn in record {
      piece = put_then c.args.pipe t.waits c.requires.settled c.write_turn.new.task _ s.end
          s.ensures.turn;
      rests = then_rests t.waits c.write_turn.ensures.rests;
      goes = wrote_piece t s.ensures.goes;
    }
