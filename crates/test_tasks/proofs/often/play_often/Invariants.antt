use Rattle.wait_rule.specs.Says.{RestsIn}
use Rattle.test_tasks.proofs.often.play_often.Given as goal

abbrev pub invariant-loop : goal.invariant-loop
invariant-loop g l = RestsIn l.fn.domain l.task
