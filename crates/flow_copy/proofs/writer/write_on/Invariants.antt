use Rattle.std.specs.Prelude.{None}
use Rattle.copy_turns.specs.Turns.{Writing}
use Rattle.flow_copy.specs.Workers.{WriterTurns}
use Rattle.flow_copy.proofs.writer.write_on.Given as goal

abbrev pub invariant-loop : goal.invariant-loop
invariant-loop g l = record {
  turns : Writing l.pipe l.initial.task l.task (g.K.Sink.held l.initial.sink) (g.K.Sink.held l.sink)
      (g.K.Sink.faults l.initial.sink) (g.K.Sink.faults l.sink) (g.K.Sink.wants l.initial.sink)
      (g.K.Sink.wants l.sink) (g.W.Watchers.entries l.initial.watch) (g.W.Watchers.entries l.watch) 0 l.moved None;
  goes : (bytes : _) × WriterTurns l.pipe l.initial.task bytes l.task None;
}
