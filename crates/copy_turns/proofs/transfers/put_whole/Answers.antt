use Rattle.std.proofs.Common.{take, arith}
use Rattle.wait_rule.specs.Pipes.{write_end}
use Rattle.copy_turns.proofs.Pieces.{got_apart, got_none, got_still, put_front, put_more, rest_length}
use Rattle.copy_turns.specs.Transfers.{all_left}
use Rattle.copy_turns.proofs.Trails.{puts_again, puts_halted, puts_more}
use Rattle.copy_turns.proofs.transfers.put_whole.Goals as goal

pub loop-init : goal.loop-init
loop-init g c = record {
  most = omega arith;
  got = got_none (write_end c.args.pipe) c.args.task.now c.requires.work c.requires.settled;
  puts = all_left;
}

pub loop-preserved-in-Ok : goal.loop-preserved-in-Ok
loop-preserved-in-Ok g c =
    let e = c.in-Ok.ensures in
    let rest = rest_length c.args.bytes.now c.loop.done c.loop.invariant.most in
    let most = e.piece.most in
    record {
      most = omega arith;
      got = put_more (write_end c.args.pipe) c.args.task.now c.loop.task c.write_piece.new.task c.args.bytes.now
          c.loop.done c.in-Ok.taken c.loop.invariant.got e.rests e.piece.moved;
      puts = puts_more (write_end c.args.pipe) c.args.bytes.now c.args.task.now c.loop.task c.write_piece.new.task
          c.loop.done c.loop.invariant.puts c.in-Ok.taken e.goes;
    }

pub loop-preserved : goal.loop-preserved
loop-preserved g c =
    let e = c.in-Err.ensures in
    record {
      most = c.loop.invariant.most;
      got = got_apart (write_end c.args.pipe) c.args.task.now c.write_piece.new.task c.halt_of.new.task
          (take c.loop.done c.args.bytes.now) (got_still (write_end c.args.pipe) c.args.task.now c.loop.task
          c.write_piece.new.task (take c.loop.done c.args.bytes.now) c.loop.invariant.got e.rests e.piece.moved)
          c.halt_of.ensures.apart;
      puts = puts_again (write_end c.args.pipe) c.args.bytes.now c.args.task.now c.loop.task c.write_piece.new.task
          c.loop.done c.loop.invariant.puts c.halt_of.new.task c.in-Err.end e.goes c.in_default.ensures.halts;
    }

pub returns-in-Err-halt_of : goal.returns-in-Err-halt_of
returns-in-Err-halt_of g c =
    let e = c.in-Err.ensures in
    record {
      put = put_front (write_end c.args.pipe) c.args.task.now c.loop.task c.write_piece.new.task c.halt_of.new.task
          c.args.bytes.now c.loop.done c.in-Err.end c.in-Err-halt_of.halt c.loop.invariant.got e.rests e.piece.moved
          e.piece.cause c.halt_of.ensures.apart c.in-Err-halt_of.ensures.halts;
      goes = puts_halted (write_end c.args.pipe) c.args.bytes.now c.args.task.now c.loop.task c.write_piece.new.task
          c.loop.done c.loop.invariant.puts c.halt_of.new.task c.in-Err.end c.in-Err-halt_of.halt e.goes
          c.in-Err-halt_of.ensures.halts;
    }
