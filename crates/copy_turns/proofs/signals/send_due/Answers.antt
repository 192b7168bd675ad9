use Rattle.copy_turns.proofs.Sends.{sends_before, sends_behind, sends_due}
use Rattle.copy_turns.proofs.signals.send_due.Goals as goal
use Rattle.copy_turns.proofs.signals.send_due.Goals.{then-from-planned+then-planned-to, else-from-planned}
use Rattle.copy_turns.proofs.signals.send_due.Goals.{else-from-planned-via-then-from-planned+else-planned-to}
use Rattle.copy_turns.proofs.signals.send_due.Goals.{else-from-planned-via-else-from-planned}

pub loop-planned-preserved : goal.loop-planned-preserved
loop-planned-preserved g c = elim c.if-from-planned.branch [
  | then-from-planned+then-planned-to w ↦ sends_due c.args.plan.now c.loop-planned.planned-index _
      c.loop-planned-test.true c.args.from c.args.to c.args.targets c.args.task.now c.loop-planned.task
      w.send_signal.new.task c.loop-planned.invariant c.if-from-planned.task w.target_of-target.result
      w.if-from-planned.true w.if-planned-to.true w.target_of-target.ensures w.send_signal.ensures.step
      w.send_signal.ensures.carries w.task-is
  | else-from-planned w ↦ elim w.else-from-planned.branch [
    | else-from-planned-via-then-from-planned+else-planned-to v ↦ sends_behind c.args.plan.now
        c.loop-planned.planned-index _ c.loop-planned-test.true c.args.from c.args.to c.args.targets c.args.task.now
        c.loop-planned.task c.loop-planned.task c.loop-planned.invariant c.if-from-planned.task w.task-is
        v.if-planned-to.false
    | else-from-planned-via-else-from-planned v ↦ sends_before c.args.plan.now c.loop-planned.planned-index _
        c.loop-planned-test.true c.args.from c.args.to c.args.targets c.args.task.now c.loop-planned.task
        c.loop-planned.task c.loop-planned.invariant c.if-from-planned.task w.task-is v.if-from-planned.false
  ]
]
