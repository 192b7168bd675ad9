-- The front of the text that is done is held, and the rest of the text gets shorter.
use Rattle.std.proofs.Common.{◌≡◌, ◌-◌, ◌≤◌, length, take}
use Rattle.std.specs.Io.KnownBytes.{append_known}
use Rattle.edge_io.proofs.sink.write_front.Given as goal

abbrev pub invariant-loop-done : goal.invariant-loop-done
invariant-loop-done g l = record {
  in_range : l.done ≤ length l.text;
  front : g.K.Sink.held l.out ≡ append_known (g.K.Sink.held l.initial.out) (take l.done l.text);
  later : g.K.Sink.faults l.initial.out ≤ g.K.Sink.faults l.out;
  failed : g.K.Sink.faults l.out ≡ g.K.Sink.faults l.initial.out;
  wanted : g.K.Sink.wants l.out ≡ g.K.Sink.wants l.initial.out;
}

abbrev pub decreases-loop-done : goal.decreases-loop-done
decreases-loop-done g l = length l.text - l.done
