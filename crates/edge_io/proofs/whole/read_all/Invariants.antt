-- The bytes so far and those that are left are all that were left, and each turn but the last adds some.
use Rattle.std.proofs.Common.{◌≡◌, ◌+◌, ◌-◌, ◌≤◌, length, vec_len}
use Rattle.std.specs.Io.KnownBytes.{prepend_known}
use Rattle.edge_io.proofs.whole.read_all.Given as goal

abbrev pub invariant-reads : goal.invariant-reads
invariant-reads g l = record {
  taken : g.S.Source.left l.initial.source ≡ prepend_known l.bytes.items (g.S.Source.left l.source);
  room : length l.buf ≡ 4096;
  later : g.S.Source.faults l.initial.source ≤ g.S.Source.faults l.source;
}

abbrev pub decreases-reads : goal.decreases-reads
decreases-reads g l = l.most + 1 - vec_len l.bytes
