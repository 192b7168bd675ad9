use Rattle.wait_rule.specs.Pipes.{write_end}
use Rattle.wait_pipe.proofs.{Fills.waited_none, PieceChanges.waits_on}
use Rattle.wait_pipe.proofs.Turns.{turn_of, wait_cause, write_stops}
use Rattle.wait_pipe.proofs.pieces.write_turn.Goals as goal

pub returns-in-Err-wait_for : goal.returns-in-Err-wait_for
returns-in-Err-wait_for g c =
    let w = waits_on c.in-Err.ensures.look.waits c.wait_for.ensures.waits in
    let cause = c.in-Err-wait_for.ensures.cause in record {
      turn = record {
        moved = waited_none w c.requires.settled;
        cause = wait_cause (write_end c.args.pipe) c.wait_for.new.task c.in-Err-wait_for.end cause;
      };
      rests = w.rests;
      goes = write_stops (write_end c.args.pipe) c.args.task.now c.wait_for.new.task c.args.bytes.now
          c.in-Err-wait_for.end cause (turn_of c.in-Err.ensures.look c.in-Err-wait_for.ensures.awaits);
    }
