use Rattle.wait_pipe.proofs.{Fills.waited_none, PieceChanges.waits_on, UntilTurns.left_none, UntilTurns.until_turn}
use Rattle.wait_pipe.proofs.leaves.read_turn_until.Goals as goal

pub returns-in-Over-Ok : goal.returns-in-Over-Ok
returns-in-Over-Ok g c =
    let w = waits_on c.in-Err.ensures.look.waits c.wait_for_until.ensures.waits in record {
      same = c.read_now.ensures.same;
      turn = w;
      rests = w.rests;
      goes = until_turn c.in-Err.ensures.look (rw c.in-Over-Ok.field-0-is at c.in-Over-Ok.ensures.awaits);
    }

pub returns-in-Over-Err : goal.returns-in-Over-Err
returns-in-Over-Err g c =
    let w = waits_on c.in-Err.ensures.look.waits c.wait_for_until.ensures.waits in record {
      same = c.read_now.ensures.same;
      turn = record {
        moved = waited_none w c.requires.settled;
        cause = rw c.in-Over-Err.field-0-is at c.in-Over-Err.ensures.cause;
      };
      rests = w.rests;
      goes = until_turn c.in-Err.ensures.look (rw c.in-Over-Err.field-0-is at c.in-Over-Err.ensures.awaits);
    }

pub returns-in-Left : goal.returns-in-Left
returns-in-Left g c =
    let w = waits_on c.in-Err.ensures.look.waits c.wait_for_until.ensures.waits in record {
      same = c.read_now.ensures.same;
      turn = left_none w c.requires.settled c.in-Left.ensures.cause;
      rests = w.rests;
      goes = until_turn c.in-Err.ensures.look c.in-Left.ensures.awaits;
    }
