use Rattle.head_tests.specs.Ready.{IsReadyIn}
use Rattle.head_tests.proofs.heads.many.queue_many.Given as goal

abbrev pub invariant-loop : goal.invariant-loop
invariant-loop g l = IsReadyIn l.domain l.task
