use Rattle.user_tests.specs.PipeTasks.{IsWriter}
use Rattle.user_tests.proofs.pipes.streams.send.Given as goal

-- between two pieces it owes nothing but its end
abbrev pub invariant-loop-turn : goal.invariant-loop-turn
invariant-loop-turn g l = IsWriter l.fn.domain l.pipe l.task
