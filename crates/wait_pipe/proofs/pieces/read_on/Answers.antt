use Rattle.std.proofs.Common.{rules}
use Rattle.wait_pipe.proofs.Turns.{got_piece, got_then, then_rests, turning_on}
use Rattle.wait_pipe.proofs.pieces.read_on.Goals as goal

pub loop-preserved : goal.loop-preserved
loop-preserved g c = turning_on c.loop.invariant c.in-None-read_turn.ensures.turn c.in-None-read_turn.ensures.goes

pub returns-in-Some-read_turn : goal.returns-in-Some-read_turn
returns-in-Some-read_turn g c =
    let t = c.loop.invariant in
    let s = c.in-Some-read_turn in record {
      same = search rules;
      piece = got_then c.args.pipe t.waits c.requires.settled c.read_turn.new.task _ s.end
          s.ensures.turn;
      rests = then_rests t.waits c.read_turn.ensures.rests;
      goes = got_piece t s.ensures.goes;
    }
