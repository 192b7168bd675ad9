use Rattle.std.proofs.Common.{◌∙◌, sym, subst, take, arith}
use Rattle.std.specs.Prelude.{◌+◌, Some}
use Rattle.copy_plan.specs.declared.stop.Stop.{Stop}
use Rattle.copy_plan.specs.declared.stop.Stop.TheVariants as stop
use Rattle.copy_turns.specs.Turns.{Reading}
use Rattle.copy_turns.proofs.ReaderTurns.{given_length, given_none, prepend_none, read_halted, read_long, read_nothing}
use Rattle.copy_turns.proofs.ReaderTurns.{read_on, source_ended}
use Rattle.flow_copy.specs.Workers.{ReaderTurn, reader_killed, source_ended as ended, source_failed}
use Rattle.flow_copy.proofs.Words.{gave_halted, gave_long, gave_none, gave_nothing, gave_piece}
use Rattle.flow_copy.proofs.reader.read_turn.Goals as goal

pub returns-then-is_killed : goal.returns-then-is_killed
returns-then-is_killed g c = record {
  turn = read_nothing c.args.pipe c.args.task.now c.is_killed.new.task (g.S.Source.left c.args.source.now)
      (g.S.Source.left c.args.source.now) (g.S.Source.faults c.args.source.now) (g.S.Source.faults c.args.source.now)
      c.args.read.now c.args.targets c.args.plan.now c.requires.settled c.is_killed.ensures.apart
      (prepend_none (g.S.Source.left c.args.source.now)) (omega arith) stop.Killed c.requires.short tt
      c.if-is_killed.ensures.killed;
  goes = gave_none (g.S.Source.left c.args.source.now) c.args.read.now
      (λ piece. ReaderTurn c.args.pipe c.args.targets c.args.plan.now c.args.read.now c.args.task.now c.is_killed.new.task piece
      (Some stop.Killed)) (reader_killed c.if-is_killed.ensures.own);
}

pub returns-in-Err : goal.returns-in-Err
returns-in-Err g c = record {
  turn = read_nothing c.args.pipe c.args.task.now c.is_killed.new.task (g.S.Source.left c.args.source.now)
      (g.S.Source.left c.take_in.new.source) (g.S.Source.faults c.args.source.now) (g.S.Source.faults c.take_in.new.source)
      c.args.read.now c.args.targets c.args.plan.now c.requires.settled c.is_killed.ensures.apart
      (sym c.in-Err.ensures.nothing ∙ prepend_none (g.S.Source.left c.take_in.new.source)) c.take_in.ensures.later
      stop.ReadFault c.requires.short tt c.in-Err.ensures.cause;
  goes = gave_nothing (g.S.Source.left c.args.source.now) (g.S.Source.left c.take_in.new.source) c.args.read.now
      (λ piece. ReaderTurn c.args.pipe c.args.targets c.args.plan.now c.args.read.now c.args.task.now c.is_killed.new.task piece
      (Some stop.ReadFault)) (sym c.in-Err.ensures.nothing ∙ prepend_none (g.S.Source.left c.take_in.new.source))
      (source_failed c.if-is_killed.ensures.own);
}

pub returns-then-taken-eq0 : goal.returns-then-taken-eq0
returns-then-taken-eq0 g c =
    let left = given_none (g.S.Source.left c.args.source.now) (g.S.Source.left c.take_in.new.source) c.take_in.new.buf
    c.in-Ok.taken c.in-Ok.ensures.bytes c.if-taken-eq0.true in
    record {
      turn = read_nothing c.args.pipe c.args.task.now c.is_killed.new.task (g.S.Source.left c.args.source.now)
          (g.S.Source.left c.take_in.new.source) (g.S.Source.faults c.args.source.now) (g.S.Source.faults c.take_in.new.source)
          c.args.read.now c.args.targets c.args.plan.now c.requires.settled c.is_killed.ensures.apart left c.take_in.ensures.later
          stop.Finished c.requires.short (source_ended (g.S.Source.left c.args.source.now)
          (g.S.Source.left c.take_in.new.source) left (c.in-Ok.ensures.end c.if-taken-eq0.true (omega arith))) tt;
      goes = gave_nothing (g.S.Source.left c.args.source.now) (g.S.Source.left c.take_in.new.source) c.args.read.now
          (λ piece. ReaderTurn c.args.pipe c.args.targets c.args.plan.now c.args.read.now c.args.task.now c.is_killed.new.task piece
          (Some stop.Finished)) left (ended c.if-is_killed.ensures.own);
    }

pub returns-then-read-gt-LONGEST : goal.returns-then-read-gt-LONGEST
returns-then-read-gt-LONGEST g c =
    let fits = c.in-Ok.ensures.fits in
    let same = c.take_in.ensures.same in
    let some = c.if-taken-eq0.false in
    let s = c.send_due.ensures in
    let given = given_length c.take_in.new.buf c.in-Ok.taken c.args.read.now (omega arith) in
    record {
      turn = read_long c.args.pipe c.args.task.now c.is_killed.new.task c.send_due.new.task (g.S.Source.left c.args.source.now)
          (g.S.Source.left c.take_in.new.source) (g.S.Source.faults c.args.source.now) (g.S.Source.faults c.take_in.new.source)
          c.args.read.now _ c.args.targets c.args.plan.now (take c.in-Ok.taken c.take_in.new.buf) c.requires.settled
          c.is_killed.ensures.apart c.in-Ok.ensures.bytes c.take_in.ensures.later
          (given_length c.take_in.new.buf c.in-Ok.taken c.args.read.now (omega arith)) (omega (arith, some))
          (record { works = s.works; ends = s.ends; sums = s.sums; spared = s.spared; signals = s.signals; each = s.goes })
          c.if-read-gt-LONGEST.true;
      goes = gave_long c.args.pipe c.args.targets c.args.plan.now c.args.read.now c.in-Ok.taken c.take_in.new.buf
          (g.S.Source.left c.args.source.now) (g.S.Source.left c.take_in.new.source) c.args.task.now
          c.is_killed.new.task c.send_due.new.task c.if-is_killed.ensures.own
          (given_length c.take_in.new.buf c.in-Ok.taken c.args.read.now (omega arith)) c.in-Ok.ensures.bytes
          (omega (arith, some, given), omega (arith, given)) s.goes c.if-read-gt-LONGEST.true;
    }

pub returns-in-Ok-hand_on : goal.returns-in-Ok-hand_on
returns-in-Ok-hand_on g c =
    let fits = c.in-Ok.ensures.fits in
    let same = c.take_in.ensures.same in
    let some = c.if-taken-eq0.false in
    let s = c.send_due.ensures in
    let given = given_length c.take_in.new.buf c.in-Ok.taken c.args.read.now (omega arith) in
    record {
      turn = read_on c.args.pipe c.args.task.now c.is_killed.new.task c.send_due.new.task (g.S.Source.left c.args.source.now)
          (g.S.Source.left c.take_in.new.source) (g.S.Source.faults c.args.source.now) (g.S.Source.faults c.take_in.new.source)
          c.args.read.now _ c.args.targets c.args.plan.now (take c.in-Ok.taken c.take_in.new.buf) c.requires.settled
          c.is_killed.ensures.apart c.in-Ok.ensures.bytes c.take_in.ensures.later
          (given_length c.take_in.new.buf c.in-Ok.taken c.args.read.now (omega arith)) (omega (arith, some))
          (record { works = s.works; ends = s.ends; sums = s.sums; spared = s.spared; signals = s.signals; each = s.goes })
          c.hand_on.new.task c.if-read-gt-LONGEST.false c.in-Ok-hand_on.ensures.handed;
      goes = gave_piece c.args.pipe c.args.targets c.args.plan.now c.args.read.now c.in-Ok.taken c.take_in.new.buf
          (g.S.Source.left c.args.source.now) (g.S.Source.left c.take_in.new.source) c.args.task.now
          c.is_killed.new.task c.send_due.new.task c.if-is_killed.ensures.own
          (given_length c.take_in.new.buf c.in-Ok.taken c.args.read.now (omega arith)) c.in-Ok.ensures.bytes
          (omega (arith, some, given), omega (arith, given)) s.goes
          c.if-read-gt-LONGEST.false c.hand_on.new.task _ c.in-Ok-hand_on.ensures.goes;
    }

pub returns-in-Err-hand_on : goal.returns-in-Err-hand_on
returns-in-Err-hand_on g c =
    let fits = c.in-Ok.ensures.fits in
    let same = c.take_in.ensures.same in
    let some = c.if-taken-eq0.false in
    let s = c.send_due.ensures in
    let given = given_length c.take_in.new.buf c.in-Ok.taken c.args.read.now (omega arith) in
    record {
      turn = subst (λ (how : Stop). Reading c.args.pipe c.args.task.now c.hand_on.new.task (g.S.Source.left c.args.source.now)
          (g.S.Source.left c.take_in.new.source) (g.S.Source.faults c.args.source.now) (g.S.Source.faults c.take_in.new.source)
          c.args.read.now (c.args.read.now + c.in-Ok.taken) c.args.targets c.args.plan.now (Some how)) (sym c.stop_of.ensures)
          (read_halted c.args.pipe c.args.task.now c.is_killed.new.task c.send_due.new.task
          (g.S.Source.left c.args.source.now) (g.S.Source.left c.take_in.new.source) (g.S.Source.faults c.args.source.now)
          (g.S.Source.faults c.take_in.new.source) c.args.read.now (c.args.read.now + c.in-Ok.taken) c.args.targets
          c.args.plan.now (take c.in-Ok.taken c.take_in.new.buf) c.requires.settled c.is_killed.ensures.apart c.in-Ok.ensures.bytes c.take_in.ensures.later (given_length c.take_in.new.buf c.in-Ok.taken c.args.read.now (omega arith)) (omega (arith, some))
          (record { works = s.works; ends = s.ends; sums = s.sums; spared = s.spared; signals = s.signals; each = s.goes })
          c.hand_on.new.task c.if-read-gt-LONGEST.false c.in-Err-hand_on.halt c.in-Err-hand_on.ensures.handed);
      goes = gave_halted c.args.pipe c.args.targets c.args.plan.now c.args.read.now c.in-Ok.taken c.take_in.new.buf
          (g.S.Source.left c.args.source.now) (g.S.Source.left c.take_in.new.source) c.args.task.now
          c.is_killed.new.task c.send_due.new.task c.if-is_killed.ensures.own
          (given_length c.take_in.new.buf c.in-Ok.taken c.args.read.now (omega arith)) c.in-Ok.ensures.bytes
          (omega (arith, some, given), omega (arith, given)) s.goes
          c.if-read-gt-LONGEST.false c.hand_on.new.task c.in-Err-hand_on.halt c.stop_of.result
          c.in-Err-hand_on.ensures.goes c.stop_of.ensures;
    }
