use Rattle.wait_rule.specs.Says.{RestsIn}
use Rattle.futex_table.specs.Holding.{HoldsMutex}
use Rattle.futex_tests.proofs.monitors.add_in_turn.Given as goal

-- it owes nothing, and has the mutex
abbrev pub invariant-loop : goal.invariant-loop
invariant-loop g l = record { rests : RestsIn l.fn.domain l.task; holds : HoldsMutex l.task 6 }
