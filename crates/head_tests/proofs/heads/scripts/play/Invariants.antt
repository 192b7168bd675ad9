use Rattle.head_tests.specs.Ready.{IsReadyIn}
use Rattle.head_tests.proofs.heads.scripts.play.Given as goal

abbrev pub invariant-loop-deed : goal.invariant-loop-deed
invariant-loop-deed g l = IsReadyIn l.domain l.task
