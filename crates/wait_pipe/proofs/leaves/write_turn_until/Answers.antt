use Rattle.std.specs.Prelude.{true}
use Rattle.wait_rule.specs.Pipes.{write_end}
use Rattle.wait_pipe.proofs.{Fills.waited_none, PieceChanges.waits_on, Turns.wait_cause}
use Rattle.wait_pipe.proofs.UntilTurns.{left_none, until_stops, until_turn}
use Rattle.wait_pipe.proofs.leaves.write_turn_until.Goals as goal

pub returns-in-Over-Ok : goal.returns-in-Over-Ok
returns-in-Over-Ok g c =
    let w = waits_on c.in-Err.ensures.look.waits c.wait_for_until.ensures.waits in record {
      turn = w;
      rests = w.rests;
      goes = until_turn c.in-Err.ensures.look (rw c.in-Over-Ok.field-0-is at c.in-Over-Ok.ensures.awaits);
    }

pub returns-in-Over-Err : goal.returns-in-Over-Err
returns-in-Over-Err g c =
    let w = waits_on c.in-Err.ensures.look.waits c.wait_for_until.ensures.waits in
    let cause = rw c.in-Over-Err.field-0-is at c.in-Over-Err.ensures.cause in record {
      turn = record {
        moved = waited_none w c.requires.settled;
        cause = wait_cause (write_end c.args.pipe) c.wait_for_until.new.task c.in-Over-Err.end cause;
      };
      rests = w.rests;
      goes = until_stops (g.Q.Fn.post c.args.asks tt true) (write_end c.args.pipe) c.args.task.now
          c.wait_for_until.new.task c.args.bytes.now c.in-Over-Err.end cause
          (until_turn c.in-Err.ensures.look (rw c.in-Over-Err.field-0-is at c.in-Over-Err.ensures.awaits));
    }

pub returns : goal.returns
returns g c =
    let w = waits_on c.in-Err.ensures.look.waits c.wait_for_until.ensures.waits in record {
      turn = left_none w c.requires.settled c.in-Left.ensures.cause;
      rests = w.rests;
      goes = until_turn c.in-Err.ensures.look c.in-Left.ensures.awaits;
    }
