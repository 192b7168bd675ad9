use Rattle.wait_rule.specs.Looking.{HasSeenEntries}
use Rattle.head_tests.proofs.steps.queues.see_entries.Given as goal

abbrev pub invariant-loop-i : goal.invariant-loop-i
invariant-loop-i l = HasSeenEntries l.initial.task l.task l.empty l.i
