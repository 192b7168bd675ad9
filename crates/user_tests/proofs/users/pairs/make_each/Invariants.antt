use Rattle.wait_rule.specs.Says.{RestsIn}
use Rattle.user_tests.proofs.users.pairs.make_each.Given as goal

-- between two calls it owes nothing
abbrev pub invariant-loop-first : goal.invariant-loop-first
invariant-loop-first g l = RestsIn l.fn.domain l.task
