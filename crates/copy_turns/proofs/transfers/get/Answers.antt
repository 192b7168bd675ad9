use Rattle.std.proofs.Common.{◌∙◌, [], refl, take}
use Rattle.wait_rule.specs.Pipes.{read_end}
use Rattle.copy_turns.proofs.Pieces.{got_apart, got_more, got_none, got_still, own_halts}
use Rattle.copy_turns.specs.Transfers.{no_part}
use Rattle.copy_turns.proofs.Trails.{gets_again, gets_halted}
use Rattle.copy_turns.proofs.transfers.get.Goals as goal

pub loop-init : goal.loop-init
loop-init g c = record {
  same = refl;
  got = got_none (read_end c.args.pipe) c.args.task.now c.requires.work c.requires.settled;
  gets = no_part;
}

pub returns-in-Ok-clause-got : goal.returns-in-Ok-clause-got
returns-in-Ok-clause-got g c =
    let e = c.in-Ok.ensures in
    got_more (read_end c.args.pipe) c.args.task.now c.loop.task c.read_piece.new.task []
    (take c.in-Ok.n c.read_piece.new.buf) c.loop.invariant.got e.rests e.piece.moved

pub returns-in-Err-halt_of-clause-got : goal.returns-in-Err-halt_of-clause-got
returns-in-Err-halt_of-clause-got g c =
    let e = c.in-Err.ensures in
    got_apart (read_end c.args.pipe) c.args.task.now c.read_piece.new.task c.halt_of.new.task []
    (got_still (read_end c.args.pipe) c.args.task.now c.loop.task c.read_piece.new.task [] c.loop.invariant.got e.rests
    e.piece.moved) c.halt_of.ensures.apart

pub returns-in-Err-halt_of-clause-cause : goal.returns-in-Err-halt_of-clause-cause
returns-in-Err-halt_of-clause-cause g c =
    let e = c.in-Err.ensures in
    own_halts (read_end c.args.pipe) c.args.task.now c.read_piece.new.task c.halt_of.new.task
    (got_still (read_end c.args.pipe) c.args.task.now c.loop.task c.read_piece.new.task [] c.loop.invariant.got e.rests
    e.piece.moved).works.grows c.in-Err.end c.in-Err-halt_of.halt e.piece.cause c.in-Err-halt_of.ensures.halts

pub loop-preserved : goal.loop-preserved
loop-preserved g c =
    let e = c.in-Err.ensures in
    record {
      same = e.same ∙ c.loop.invariant.same;
      got = got_apart (read_end c.args.pipe) c.args.task.now c.read_piece.new.task c.halt_of.new.task []
          (got_still (read_end c.args.pipe) c.args.task.now c.loop.task c.read_piece.new.task [] c.loop.invariant.got
          e.rests e.piece.moved) c.halt_of.ensures.apart;
      gets = gets_again (read_end c.args.pipe) c.args.task.now c.loop.task c.read_piece.new.task c.loop.invariant.gets
          c.read_piece.new.buf c.halt_of.new.task c.in-Err.end e.goes c.in_default.ensures.halts;
    }

pub returns-in-Err-halt_of-clause-goes : goal.returns-in-Err-halt_of-clause-goes
returns-in-Err-halt_of-clause-goes g c =
    let e = c.in-Err.ensures in
    gets_halted (read_end c.args.pipe) c.args.task.now c.loop.task c.read_piece.new.task c.loop.invariant.gets
    c.read_piece.new.buf c.halt_of.new.task c.in-Err.end c.in-Err-halt_of.halt e.goes e.piece.cause
    c.in-Err-halt_of.ensures.halts
