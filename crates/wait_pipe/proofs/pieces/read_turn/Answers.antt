use Rattle.wait_pipe.proofs.{Fills.waited_none, PieceChanges.waits_on, Turns.turn_of}
use Rattle.wait_pipe.proofs.pieces.read_turn.Goals as goal

pub returns-in-Err-wait_for : goal.returns-in-Err-wait_for
returns-in-Err-wait_for g c =
    let w = waits_on c.in-Err.ensures.look.waits c.wait_for.ensures.waits in record {
      same = c.read_now.ensures.same;
      turn = record { moved = waited_none w c.requires.settled; cause = c.in-Err-wait_for.ensures.cause };
      rests = w.rests;
      goes = turn_of c.in-Err.ensures.look c.in-Err-wait_for.ensures.awaits;
    }
