use Rattle.poll_wait.proofs.Turning.{Polling}
use Rattle.poll_wait.proofs.polls.poll_on.Given as goal

abbrev pub invariant-loop : goal.invariant-loop
invariant-loop g l = Polling l.poll l.initial.task l.task
