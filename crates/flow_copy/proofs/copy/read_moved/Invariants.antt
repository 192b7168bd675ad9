use Rattle.flow_copy.proofs.Awaits.{Trying}
use Rattle.flow_copy.proofs.copy.read_moved.Given as goal

abbrev pub invariant-loop : goal.invariant-loop
invariant-loop g l = Trying l.fn.task l.task
