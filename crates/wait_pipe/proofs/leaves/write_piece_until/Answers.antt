use Rattle.std.specs.Prelude.{true}
use Rattle.wait_pipe.proofs.Turns.{then_rests}
use Rattle.wait_pipe.proofs.UntilTurns.{put_until_then, until_on, wrote_until}
use Rattle.wait_pipe.proofs.leaves.write_piece_until.Goals as goal

pub loop-preserved : goal.loop-preserved
loop-preserved g c = until_on c.loop.invariant c.in-None-write_turn_until.ensures.turn c.in-None-write_turn_until.ensures.goes

pub returns-in-Some-write_turn_until : goal.returns-in-Some-write_turn_until
returns-in-Some-write_turn_until g c =
    let t = c.loop.invariant in
    let s = c.in-Some-write_turn_until in record {
      piece = put_until_then (g.Q.Fn.post c.args.asks tt true) c.args.pipe t.waits c.requires.settled c.write_turn_until.new.task _ s.end
          s.ensures.turn;
      rests = then_rests t.waits c.write_turn_until.ensures.rests;
      goes = wrote_until t s.ensures.goes;
    }
