use Rattle.std.proofs.Common.{◌∙◌, None, sym}
use Rattle.wait_model.specs.declared.layout.TheConstants.{FIRST_PLAIN_HEAD}
use Rattle.wait_rule.specs.Queues.{walk_of_hold}
use Rattle.wq_head.proofs.{LockWaits.locked_stored, LockWaits.locked_at, ReadyTasks.first_head}
use Rattle.head_tests.proofs.LeavingTask.{entry_added}
use Rattle.head_tests.proofs.heads.leaving.queue_own.Goals as goal

pub add_tail-requires-clause-head : goal.add_tail-requires-clause-head
add_tail-requires-clause-head g c = first_head
    ∙ sym (locked_at _ c.lock.new.task FIRST_PLAIN_HEAD (walk_of_hold FIRST_PLAIN_HEAD None) c.lock.ensures.locked)

pub add_tail-requires-clause-out : goal.add_tail-requires-clause-out
add_tail-requires-clause-out g c = locked_stored c.args.task.now c.lock.new.task FIRST_PLAIN_HEAD
    (walk_of_hold FIRST_PLAIN_HEAD None) c.lock.ensures.locked _ (c.requires.rests.clean.settled.unqueued _)

pub returns-clause-queued : goal.returns-clause-queued
returns-clause-queued g c = entry_added c.args.task.now c.lock.new.task c.add_tail.new.task c.unlock.new.task
    c.args.kind
    c.requires.rests.clean c.lock.ensures.stays c.lock.ensures.settled c.in-Ok.ensures.queued c.unlock.ensures.unlocked
