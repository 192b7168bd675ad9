use Rattle.wait_rule.specs.{LookCounts.Looked, Stays.Carries, Stays.unchanged}
use Rattle.head_tests.proofs.steps.queues.see_no_bits.Given as goal

abbrev pub invariant-loop-i : goal.invariant-loop-i
invariant-loop-i l = record {
  looks : Looked l.i l.fn.task l.task;
  carries : Carries unchanged l.fn.task l.task;
}
