use Rattle.user_tests.specs.PipeTasks.{IsReader}
use Rattle.user_tests.proofs.pipes.streams.receive.Given as goal

-- between two pieces it owes nothing but its end
abbrev pub invariant-loop-turn : goal.invariant-loop-turn
invariant-loop-turn g l = IsReader l.fn.domain l.pipe l.task
