use Rattle.std.proofs.Common.{◌≡◌, ◌-◌, ◌++◌}
use Rattle.drill_gen.specs.Drill.{drawn_from}
use Rattle.drill_gen.proofs.lines.drill.Given as goal

-- what is drawn, and what is yet to come
abbrev pub invariant-loop-call : goal.invariant-loop-call
invariant-loop-call l = record {
  lines : drawn_from l.seed l.count ≡ l.lines.items ++ drawn_from l.generator (l.count - l._call);
}
