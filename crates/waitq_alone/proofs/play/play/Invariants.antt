use Rattle.std.proofs.Common.{◌≤◌, ◌++◌, drop}
use Rattle.edge_io.specs.Text.{Midway}
use Rattle.wait_script.specs.Replay.{replay_from}
use Rattle.waitq_alone.proofs.play.play.Given as goal

abbrev pub invariant-loop-line : goal.invariant-loop-line
invariant-loop-line g l = record {
  midway : Midway (g.K.Sink.held l.initial.out) (g.K.Sink.held l.out)
      (l.buffer ++ replay_from l.core (drop l.line-index l.lines))
      (l.initial.buffer ++ replay_from l.initial.core l.lines);
  later : g.K.Sink.faults l.initial.out ≤ g.K.Sink.faults l.out;
}
