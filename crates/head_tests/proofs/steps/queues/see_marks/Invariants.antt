use Rattle.wait_rule.specs.Looking.{HasSeenMarks}
use Rattle.head_tests.proofs.steps.queues.see_marks.Given as goal

abbrev pub invariant-loop-who : goal.invariant-loop-who
invariant-loop-who l = HasSeenMarks l.initial.task l.task l.empty l.who
