use Rattle.std.proofs.Common.{arith}
use Rattle.std.specs.Prelude.{[], None, Some}
use Rattle.copy_turns.proofs.Writes.{writing_none, writing_then}
use Rattle.flow_copy.specs.Workers.{no_turn}
use Rattle.flow_copy.proofs.Words.{writer_more}
use Rattle.flow_copy.proofs.writer.write_on.Goals as goal

pub loop-init : goal.loop-init
loop-init g c = record {
  turns = writing_none c.args.pipe c.args.task.now (g.K.Sink.held c.args.sink.now) (g.K.Sink.faults c.args.sink.now)
      (g.K.Sink.wants c.args.sink.now) (g.W.Watchers.entries c.args.watch.now) 0 (omega arith) c.requires.work
      c.requires.settled;
  goes = ([], no_turn);
}

pub loop-preserved : goal.loop-preserved
loop-preserved g c = record {
  turns = writing_then c.args.pipe c.args.task.now c.loop.task c.write_turn.new.task (g.K.Sink.held c.args.sink.now)
      (g.K.Sink.held c.loop.sink) (g.K.Sink.held c.write_turn.new.sink) (g.K.Sink.faults c.args.sink.now)
      (g.K.Sink.faults c.loop.sink) (g.K.Sink.faults c.write_turn.new.sink) (g.K.Sink.wants c.args.sink.now)
      (g.K.Sink.wants c.loop.sink) (g.K.Sink.wants c.write_turn.new.sink)
      (g.W.Watchers.entries c.args.watch.now) (g.W.Watchers.entries c.loop.watch)
      (g.W.Watchers.entries c.write_turn.new.watch) 0 c.loop.moved c.write_turn.new.moved None
      c.loop.invariant.turns c.in_default.ensures.turn;
  goes = writer_more c.args.pipe c.args.task.now c.loop.task c.write_turn.new.task None c.loop.invariant.goes
      c.in_default.ensures.goes;
}

pub returns-in-Some-write_turn : goal.returns-in-Some-write_turn
returns-in-Some-write_turn g c = record {
  turns = writing_then c.args.pipe c.args.task.now c.loop.task c.write_turn.new.task
      (g.K.Sink.held c.args.sink.now) (g.K.Sink.held c.loop.sink) (g.K.Sink.held c.write_turn.new.sink)
      (g.K.Sink.faults c.args.sink.now) (g.K.Sink.faults c.loop.sink) (g.K.Sink.faults c.write_turn.new.sink)
      (g.K.Sink.wants c.args.sink.now) (g.K.Sink.wants c.loop.sink) (g.K.Sink.wants c.write_turn.new.sink)
      (g.W.Watchers.entries c.args.watch.now) (g.W.Watchers.entries c.loop.watch)
      (g.W.Watchers.entries c.write_turn.new.watch) 0 c.loop.moved c.write_turn.new.moved
      (Some c.in-Some-write_turn.stop) c.loop.invariant.turns c.in-Some-write_turn.ensures.turn;
  goes = writer_more c.args.pipe c.args.task.now c.loop.task c.write_turn.new.task (Some c.in-Some-write_turn.stop)
      c.loop.invariant.goes c.in-Some-write_turn.ensures.goes;
}
