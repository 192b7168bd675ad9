use Rattle.std.proofs.Common.{rules}
use Rattle.std.specs.Prelude.{true}
use Rattle.wait_pipe.proofs.Turns.{then_rests}
use Rattle.wait_pipe.proofs.UntilTurns.{got_until_then, read_until, until_on}
use Rattle.wait_pipe.proofs.leaves.read_piece_until.Goals as goal

pub loop-preserved : goal.loop-preserved
loop-preserved g c = until_on c.loop.invariant c.in-None-read_turn_until.ensures.turn c.in-None-read_turn_until.ensures.goes

pub returns-in-Some-read_turn_until : goal.returns-in-Some-read_turn_until
returns-in-Some-read_turn_until g c =
    let t = c.loop.invariant in
    let s = c.in-Some-read_turn_until in record {
      same = search rules;
      piece = got_until_then (g.Q.Fn.post c.args.asks tt true) c.args.pipe t.waits c.requires.settled c.read_turn_until.new.task _ s.end
          s.ensures.turn;
      rests = then_rests t.waits c.read_turn_until.ensures.rests;
      goes = read_until t s.ensures.goes;
    }
