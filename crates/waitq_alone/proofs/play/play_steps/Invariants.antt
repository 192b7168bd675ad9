use Rattle.std.proofs.Common.{◌≡◌, ◌-◌, ◌≤◌, ◌++◌}
use Rattle.edge_io.specs.Text.{Midway}
use Rattle.wait_script.specs.Replay.{played_steps}
use Rattle.waitq_alone.proofs.play.play_steps.Given as goal

abbrev pub invariant-loop-i : goal.invariant-loop-i
invariant-loop-i g l = record {
  midway : Midway (g.K.Sink.held l.initial.out) (g.K.Sink.held l.out)
      (l.buffer ++ (played_steps (l.count - l._i) l.core l.task).0)
      (l.initial.buffer ++ (played_steps l.count l.initial.core l.task).0);
  run : (played_steps (l.count - l._i) l.core l.task).1 ≡ (played_steps l.count l.initial.core l.task).1;
  later : g.K.Sink.faults l.initial.out ≤ g.K.Sink.faults l.out;
}
