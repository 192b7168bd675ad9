use Rattle.std.proofs.Common.{◌∙◌, None, sym}
use Rattle.wait_model.specs.declared.layout.TheConstants.{FIRST_PLAIN_HEAD}
use Rattle.wq_head.proofs.{LockWaits.locked_stored, LockWaits.locked_at, ReadyTasks.first_head}
use Rattle.bench_threads.proofs.heads.queue_own.Goals as goal

pub add_tail-requires-clause-head : goal.add_tail-requires-clause-head
add_tail-requires-clause-head g c = first_head
    ∙ sym (locked_at _ c.lock.new.task FIRST_PLAIN_HEAD None c.lock.ensures.locked)

pub add_tail-requires-clause-out : goal.add_tail-requires-clause-out
add_tail-requires-clause-out g c = locked_stored c.args.task c.lock.new.task FIRST_PLAIN_HEAD None
    c.lock.ensures.locked _ (c.requires.ready.out _)
