use Rattle.copy_ends.specs.Copied.{Controlled, WaitsTimes}
use Rattle.flow_copy.proofs.controller.controller_task.Given as goal

abbrev pub invariant-loop-ended : goal.invariant-loop-ended
invariant-loop-ended g l = record {
  controlled : Controlled l.fn.task l.task;
  waits : WaitsTimes l.ended l.fn.task l.task;
}
