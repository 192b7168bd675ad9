use Rattle.std.proofs.Common.{◌≡◌, ◌+◌, ◌≤◌, drop}
use Rattle.waitq_alone.specs.Drill.{run_after_lines, refused_in}
use Rattle.waitq_alone.proofs.silent.make_lines.Given as goal

abbrev pub invariant-loop-line : goal.invariant-loop-line
invariant-loop-line l = record {
  run : run_after_lines l.core (drop l.line-index l.lines) ≡ run_after_lines l.initial.core l.lines;
  refused : l.refused + refused_in l.core (drop l.line-index l.lines) ≡ refused_in l.initial.core l.lines;
  few : l.refused ≤ l.line-index;
}
