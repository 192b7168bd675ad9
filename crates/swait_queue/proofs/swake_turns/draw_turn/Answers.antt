use Rattle.wq_head.proofs.AwaitedLocks.{awaits_none}
use Rattle.swait_queue.proofs.SwakeHolds.{fits}
use Rattle.swait_queue.proofs.swake_turns.draw_turn.Goals as goal

pub draw_lock-run-requires-clause-head : goal.draw_lock-run-requires-clause-head
draw_lock-run-requires-clause-head c =
    fits c.args.run.now.cond c.head_of.result c.requires.at.1.simple c.head_of.ensures

pub returns-in-First-clause-rouses : goal.returns-in-First-clause-rouses
returns-in-First-clause-rouses c = awaits_none c.args.task.now c.draw_lock-run.new.task c.head_of.result
    c.draw_lock-run.result c.draw_lock-run.ensures.awaits
