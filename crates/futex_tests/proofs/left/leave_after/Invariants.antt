use Rattle.std.proofs.Common.{◌≡◌}
use Rattle.wait_rule.specs.Says.{RestsIn}
use Rattle.wait_class.specs.Tables.{Lands}
use Rattle.futex_table.specs.FutexTables.{futex_table}
use Rattle.futex_tests.proofs.left.leave_after.Given as goal

-- the wait stands where its last stretch left it, and the other task owes nothing
abbrev pub invariant-loop : goal.invariant-loop
invariant-loop g l = record {
  of : l.task.domain ≡ l.fn.domain;
  waiting : Lands futex_table l.task l.run l.at;
  other : RestsIn l.fn.domain l.other;
}
