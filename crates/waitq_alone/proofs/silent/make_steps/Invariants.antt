use Rattle.std.proofs.Common.{◌≡◌, ◌-◌}
use Rattle.wait_script.specs.Replay.{played_steps}
use Rattle.waitq_alone.proofs.silent.make_steps.Given as goal

abbrev pub invariant-loop-i : goal.invariant-loop-i
invariant-loop-i l = record {
  run : (played_steps (l.count - l._i) l.core l.task).1 ≡ (played_steps l.count l.initial.core l.task).1;
}
