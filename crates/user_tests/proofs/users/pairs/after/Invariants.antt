use Rattle.wait_rule.specs.Says.{RestsIn}
use Rattle.user_tests.proofs.users.pairs.after.Given as goal

-- between two calls it owes nothing
abbrev pub invariant-loop-second : goal.invariant-loop-second
invariant-loop-second g l = RestsIn l.fn.domain l.task
