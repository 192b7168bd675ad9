use Rattle.std.proofs.Common.{take}
use Rattle.copy_plan.specs.Plans.{due_in}
use Rattle.copy_turns.specs.Raises.{sent_to}
use Rattle.copy_turns.proofs.Sends.{Sends}
use Rattle.copy_turns.proofs.signals.send_due.Given as goal

abbrev pub invariant-loop-planned : goal.invariant-loop-planned
invariant-loop-planned g l = Sends l.initial.task l.task
    (sent_to l.targets (due_in l.from l.to (take l.planned-index l.plan)))
