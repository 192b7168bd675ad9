use Rattle.wait_rule.specs.Says.{RestsIn}
use Rattle.user_tests.proofs.pipes.left_streams.ask.Given as goal

-- between two asks it owes nothing
abbrev pub invariant-loop-time : goal.invariant-loop-time
invariant-loop-time g l = RestsIn l.fn.domain l.task
