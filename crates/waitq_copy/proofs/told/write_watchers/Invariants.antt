-- A front of the lines is written, and those from the next place on are left.
use Rattle.std.proofs.Common.{◌≤◌, drop}
use Rattle.edge_io.specs.Text.{Midway}
use Rattle.waitq_copy.specs.Copying.{told_pieces, watch_lines}
use Rattle.waitq_copy.proofs.told.write_watchers.Given as goal

abbrev pub invariant-loop-place : goal.invariant-loop-place
invariant-loop-place g l = record {
  on : Midway (g.O.Sink.held l.initial.out) (g.O.Sink.held l.out)
      (watch_lines l.place (drop l.place (told_pieces (g.W.Watchers.entries l.watch))))
      (watch_lines 0 (told_pieces (g.W.Watchers.entries l.watch)));
  later : g.O.Sink.faults l.initial.out ≤ g.O.Sink.faults l.out;
}
