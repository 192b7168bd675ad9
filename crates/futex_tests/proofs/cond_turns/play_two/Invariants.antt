use Rattle.std.specs.Prelude.{◌≡◌}
use Rattle.futex_tests.specs.CondTasks.{IsInMonitor}
use Rattle.futex_tests.proofs.cond_turns.play_two.Given as goal

abbrev pub invariant-loop : goal.invariant-loop
invariant-loop g l = record {
  of : l.first.domain ≡ l.fn.domain;
  its : l.second.domain ≡ l.fn.domain;
  one : IsInMonitor l.first l.ats.0;
  two : IsInMonitor l.second l.ats.1;
}
