use Rattle.std.proofs.Common.{◌≤◌, ◌-◌}
use Rattle.edge_io.specs.Text.{Midway}
use Rattle.wait_model.specs.{Runs.state_of, declared.layout.TheConstants.HEADS}
use Rattle.wait_script.specs.Ending.{texts_from, line_of_head, heads_text}
use Rattle.wait_script.proofs.ending.write_heads.Given as goal

abbrev pub invariant-loop-head : goal.invariant-loop-head
invariant-loop-head g l = record {
  midway : Midway (g.K.Sink.held l.initial.out) (g.K.Sink.held l.out)
      (texts_from (line_of_head (state_of l.core)) l.head (HEADS - l.head)) (heads_text (state_of l.core));
  later : g.K.Sink.faults l.initial.out ≤ g.K.Sink.faults l.out;
}
