use Rattle.copy_turns.specs.Work.{Apart}
use Rattle.flow_copy.proofs.Words.{Waited}
use Rattle.flow_copy.proofs.parts.lock_counted.Given as goal

abbrev pub invariant-loop : goal.invariant-loop
invariant-loop g l = record { apart : Apart l.fn.task l.task; waited : Waited l.fn.task l.task }
