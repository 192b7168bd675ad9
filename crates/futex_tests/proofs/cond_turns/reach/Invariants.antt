use Rattle.std.specs.Prelude.{◌≡◌}
use Rattle.wait_rule.specs.Says.{RestsIn}
use Rattle.futex_tests.specs.CondTasks.{IsTestedCond}
use Rattle.futex_tests.proofs.cond_turns.reach.Given as goal

-- the wait stands where its last stretch left it, and the other task owes nothing
abbrev pub invariant-loop : goal.invariant-loop
invariant-loop g l = record {
  of : l.task.domain ≡ l.fn.domain;
  waiting : IsTestedCond l.task l.at;
  other : RestsIn l.fn.domain l.other;
}
