use Rattle.std.proofs.Common.{refl, sym, ap, subst, arith}
use Rattle.std.specs.Prelude.{ℕ, ◌≡◌, ◌+◌, ◌%◌, ◌^◌, Some, [], length, take}
use Rattle.std.proofs.lemmas.List.{length-take-le}
use Rattle.edge_io.specs.Faults.{FaultIsFailed, FaultIsWant, HasCounted}
use Rattle.copy_plan.specs.declared.stop.Stop.{Stop}
use Rattle.copy_plan.specs.declared.stop.Stop.TheVariants as stop
use Rattle.copy_turns.specs.Turns.{CountedAll, Writing}
use Rattle.copy_turns.proofs.Shown.{is_piece}
use Rattle.copy_turns.proofs.Writes.{counted_risen, write_ended, write_fault, write_goes_on, write_halted, write_killed}
use Rattle.copy_turns.proofs.Writes.{write_stopped}
use Rattle.std.specs.Prelude.{None, Ok, Err}
use Rattle.wait_rule.specs.Pipes.{read_end}
use Rattle.flow_copy.specs.Workers.{SinksPiece, getter_gets, getter_killed, got_piece, sink_failed, sink_wanted}
use Rattle.flow_copy.proofs.Words.{counts_length, get_ends, get_halts, sinks_halted, sinks_whole}
use Rattle.flow_copy.proofs.writer.write_turn.Goals as goal

pub returns-then-is_killed : goal.returns-then-is_killed
returns-then-is_killed g c = record {
  turn = write_killed c.args.pipe c.args.task.now c.is_killed.new.task
      (g.K.Sink.held c.args.sink.now) (g.K.Sink.faults c.args.sink.now) (g.K.Sink.wants c.args.sink.now)
      (g.W.Watchers.entries c.args.watch.now) c.args.moved.now
      (omega arith) c.requires.settled c.is_killed.ensures.apart c.if-is_killed.ensures.killed;
  goes = ([], getter_killed c.if-is_killed.ensures.own);
}

pub returns-in-Err : goal.returns-in-Err
returns-in-Err g c = record {
  turn = subst (λ (s : Stop). Writing c.args.pipe c.args.task.now c.get.new.task
      (g.K.Sink.held c.args.sink.now) (g.K.Sink.held c.args.sink.now) (g.K.Sink.faults c.args.sink.now)
      (g.K.Sink.faults c.args.sink.now) (g.K.Sink.wants c.args.sink.now) (g.K.Sink.wants c.args.sink.now)
      (g.W.Watchers.entries c.args.watch.now) (g.W.Watchers.entries c.args.watch.now)
      c.args.moved.now c.args.moved.now (Some s)) (sym c.stop_of.ensures) (write_halted c.args.pipe c.args.task.now
      c.is_killed.new.task c.get.new.task c.args.moved.now (omega arith) c.is_killed.ensures.apart []
      c.in-Err.ensures.got
      (g.K.Sink.held c.args.sink.now) (g.K.Sink.faults c.args.sink.now) (g.K.Sink.wants c.args.sink.now)
      (g.W.Watchers.entries c.args.watch.now) c.in-Err.halt refl c.in-Err.ensures.cause);
  goes = (
    [],
    getter_gets c.is_killed.new.task _ _ c.if-is_killed.ensures.own (get_halts (read_end c.args.pipe)
        (λ p a b h. SinksPiece p a b h) c.is_killed.new.task c.get.new.task c.get.new.buf c.in-Err.halt
        c.stop_of.result c.in-Err.ensures.goes c.stop_of.ensures),
  );
}

pub returns-then-taken-eq0 : goal.returns-then-taken-eq0
returns-then-taken-eq0 g c = record {
  turn = write_ended c.args.pipe c.args.task.now c.is_killed.new.task c.get.new.task
      c.args.moved.now (omega arith) c.is_killed.ensures.apart (take c.in-Ok.taken c.get.new.buf) c.in-Ok.ensures.got
      (g.K.Sink.held c.args.sink.now) (g.K.Sink.faults c.args.sink.now) (g.K.Sink.wants c.args.sink.now)
      (g.W.Watchers.entries c.args.watch.now) (ap (λ (n : ℕ). take n c.get.new.buf) c.if-taken-eq0.true)
      (c.in-Ok.ensures.end c.if-taken-eq0.true);
  goes = (
    [],
    getter_gets c.is_killed.new.task _ _ c.if-is_killed.ensures.own (get_ends (read_end c.args.pipe)
        (λ p a b h. SinksPiece p a b h) c.is_killed.new.task c.get.new.task c.get.new.buf c.in-Ok.taken
        c.in-Ok.ensures.goes c.if-taken-eq0.true),
  );
}

pub returns-in-Err-Failed : goal.returns-in-Err-Failed
returns-in-Err-Failed g c =
    let f0 : ℕ = g.K.Sink.faults c.args.sink.now in
    let f1 : ℕ = g.K.Sink.faults c.write_all.new.out in
    let v0 : ℕ = g.K.Sink.wants c.args.sink.now in
    let v1 : ℕ = g.K.Sink.wants c.write_all.new.out in
    let failed : HasCounted f0 f1 = subst (FaultIsFailed f0 f1) c.in-Err-Failed.field-0-is
    c.in-Err-Failed.ensures.failed in
    record {
      turn = write_fault c.args.pipe c.args.task.now c.is_killed.new.task c.get.new.task c.args.moved.now (omega arith)
          c.is_killed.ensures.apart (take c.in-Ok.taken c.get.new.buf) c.in-Ok.ensures.got
          (g.K.Sink.held c.args.sink.now)
          (g.K.Sink.held c.write_all.new.out) f0 f1 v0 v1
          (g.W.Watchers.entries c.args.watch.now) stop.WriteFault c.in-Err-Failed.ensures.text
          c.in-Err-Failed.ensures.later
          (failed, subst (FaultIsWant v0 v1) c.in-Err-Failed.field-0-is c.in-Err-Failed.ensures.wanted)
          (counted_risen f0 f1 failed) (λ X. tt) (λ X. tt);
      goes = (
        take c.in-Ok.taken c.get.new.buf,
        getter_gets c.is_killed.new.task _ _ c.if-is_killed.ensures.own (got_piece c.get.new.task c.get.new.buf c.in-Ok.taken (Some stop.WriteFault)
            c.get.ensures.same (let some = c.if-taken-eq0.false in omega (arith, some)) c.in-Ok.ensures.goes
            (sink_failed (refl {a = c.get.new.task}))),
      );
    }

pub returns-in-Err-OutOfMemory : goal.returns-in-Err-OutOfMemory
returns-in-Err-OutOfMemory g c =
    let f0 : ℕ = g.K.Sink.faults c.args.sink.now in
    let f1 : ℕ = g.K.Sink.faults c.write_all.new.out in
    let v0 : ℕ = g.K.Sink.wants c.args.sink.now in
    let v1 : ℕ = g.K.Sink.wants c.write_all.new.out in
    let wanted : HasCounted v0 v1
    = subst (FaultIsWant v0 v1) c.in-Err-OutOfMemory.field-0-is c.in-Err-OutOfMemory.ensures.wanted in
    record {
      turn = write_fault c.args.pipe c.args.task.now c.is_killed.new.task c.get.new.task c.args.moved.now (omega arith)
          c.is_killed.ensures.apart (take c.in-Ok.taken c.get.new.buf) c.in-Ok.ensures.got
          (g.K.Sink.held c.args.sink.now)
          (g.K.Sink.held c.write_all.new.out) f0 f1 v0 v1
          (g.W.Watchers.entries c.args.watch.now) stop.Memory c.in-Err-OutOfMemory.ensures.text
          c.in-Err-OutOfMemory.ensures.later
          (subst (FaultIsFailed f0 f1) c.in-Err-OutOfMemory.field-0-is c.in-Err-OutOfMemory.ensures.failed, wanted)
          (counted_risen v0 v1 wanted) (λ X. tt) (λ X. tt);
      goes = (
        take c.in-Ok.taken c.get.new.buf,
        getter_gets c.is_killed.new.task _ _ c.if-is_killed.ensures.own (got_piece c.get.new.task c.get.new.buf c.in-Ok.taken (Some stop.Memory)
            c.get.ensures.same (let some = c.if-taken-eq0.false in omega (arith, some)) c.in-Ok.ensures.goes
            (sink_wanted (refl {a = c.get.new.task}))),
      );
    }

pub returns-in-Ok-count : goal.returns-in-Ok-count
returns-in-Ok-count g c =
    let size : c.in-Ok.taken ≡ length (take c.in-Ok.taken c.get.new.buf)
    = sym (length-take-le c.in-Ok.taken c.get.new.buf c.in-Ok.ensures.most) in
    record {
      turn = write_goes_on c.args.pipe c.args.task.now c.is_killed.new.task c.get.new.task c.args.moved.now (omega arith)
          c.is_killed.ensures.apart (take c.in-Ok.taken c.get.new.buf) c.in-Ok.ensures.got c.count.new.task
          (g.K.Sink.held c.args.sink.now) (g.K.Sink.held c.write_all.new.out) (g.K.Sink.faults c.args.sink.now)
          (g.K.Sink.faults c.write_all.new.out) (g.K.Sink.wants c.args.sink.now) (g.K.Sink.wants c.write_all.new.out)
          (g.W.Watchers.entries c.args.watch.now) (g.W.Watchers.entries c.show.new.self)
          c.in-Ok-write_all.ensures.failed c.in-Ok-write_all.ensures.wanted c.in-Ok-write_all.ensures.text
          (is_piece c.in-Ok.taken c.get.new.buf c.if-taken-eq0.false c.in-Ok.ensures.most c.get.ensures.same)
          c.show.ensures ((c.args.moved.now + c.in-Ok.taken) % 2 ^ 64)
          (subst (λ (n : ℕ). CountedAll n c.get.new.task c.count.new.task) size c.in-Ok-count.ensures.counts)
          (ap (λ (n : ℕ). (c.args.moved.now + n) % 2 ^ 64) size);
      goes = (
        take c.in-Ok.taken c.get.new.buf,
        getter_gets c.is_killed.new.task _ _ c.if-is_killed.ensures.own (got_piece c.get.new.task c.get.new.buf c.in-Ok.taken None
            c.get.ensures.same (let some = c.if-taken-eq0.false in omega (arith, some)) c.in-Ok.ensures.goes
            (sinks_whole (take c.in-Ok.taken c.get.new.buf) c.get.new.task c.count.new.task (counts_length c.in-Ok.taken
            c.get.new.buf c.get.new.task c.count.new.task (Ok tt) size c.in-Ok-count.ensures.goes))),
      );
    }

pub returns-in-Err-count : goal.returns-in-Err-count
returns-in-Err-count g c = record {
  turn = subst (λ (s : Stop). Writing c.args.pipe c.args.task.now c.count.new.task
      (g.K.Sink.held c.args.sink.now) (g.K.Sink.held c.write_all.new.out) (g.K.Sink.faults c.args.sink.now)
      (g.K.Sink.faults c.write_all.new.out) (g.K.Sink.wants c.args.sink.now) (g.K.Sink.wants c.write_all.new.out)
      (g.W.Watchers.entries c.args.watch.now) (g.W.Watchers.entries c.show.new.self) c.args.moved.now c.args.moved.now
      (Some s)) (sym c.stop_of-in-Err-count.ensures) (write_stopped c.args.pipe c.args.task.now
      c.is_killed.new.task c.get.new.task c.args.moved.now (omega arith) c.is_killed.ensures.apart
      (take c.in-Ok.taken c.get.new.buf) c.in-Ok.ensures.got c.count.new.task (g.K.Sink.held c.args.sink.now)
      (g.K.Sink.held c.write_all.new.out) (g.K.Sink.faults c.args.sink.now) (g.K.Sink.faults c.write_all.new.out)
      (g.K.Sink.wants c.args.sink.now) (g.K.Sink.wants c.write_all.new.out)
      (g.W.Watchers.entries c.args.watch.now) (g.W.Watchers.entries c.show.new.self) c.in-Ok-write_all.ensures.failed
      c.in-Ok-write_all.ensures.wanted c.in-Ok-write_all.ensures.text
      (is_piece c.in-Ok.taken c.get.new.buf c.if-taken-eq0.false c.in-Ok.ensures.most c.get.ensures.same) c.show.ensures
      c.in-Err-count.halt c.in-Err-count.ensures.counts
      c.in-Err-count.ensures.cause);
  goes = (
    take c.in-Ok.taken c.get.new.buf,
    getter_gets c.is_killed.new.task _ _ c.if-is_killed.ensures.own (got_piece c.get.new.task c.get.new.buf c.in-Ok.taken (Some c.stop_of-in-Err-count.result)
        c.get.ensures.same (let some = c.if-taken-eq0.false in omega (arith, some)) c.in-Ok.ensures.goes
        (sinks_halted (take c.in-Ok.taken c.get.new.buf) c.get.new.task c.count.new.task c.in-Err-count.halt
        c.stop_of-in-Err-count.result (counts_length c.in-Ok.taken c.get.new.buf c.get.new.task c.count.new.task
        (Err c.in-Err-count.halt) (sym (length-take-le c.in-Ok.taken c.get.new.buf c.in-Ok.ensures.most))
        c.in-Err-count.ensures.goes) c.stop_of-in-Err-count.ensures)),
  );
}
