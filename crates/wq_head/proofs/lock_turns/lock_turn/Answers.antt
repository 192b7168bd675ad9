use Rattle.std.proofs.Common.{None}
use Rattle.wait_rule.specs.Queues.{walk_of_hold}
use Rattle.wq_head.proofs.{AwaitedLocks.took_lock, DrawnTurns.still_waits, DrawnTurns.turn_locked}
use Rattle.wq_head.proofs.lock_turns.lock_turn.Goals as goal

pub returns-then-served-ticket-clause-turned : goal.returns-then-served-ticket-clause-turned
returns-then-served-ticket-clause-turned c start a = record {
  up = a.up;
  free = a.free;
  waits = still_waits start c.args.task.now c.serving_load-served.new.task c.args.head c.args.ticket
      c.serving_load-served.result a.waits c.serving_load-served.ensures.step c.if-served-ticket.true;
}

pub returns-clause-turned : goal.returns-clause-turned
returns-clause-turned c start a = took_lock start c.lock_step.new.task c.args.head a.up
    (turn_locked start c.args.task.now c.serving_load-served.new.task c.args.head c.args.ticket
    c.serving_load-served.result a.waits c.serving_load-served.ensures.step c.if-served-ticket.false
    (walk_of_hold c.args.head None) c.lock_step.new.task c.lock_step.ensures.step)
