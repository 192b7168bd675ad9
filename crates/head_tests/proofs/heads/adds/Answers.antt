use Rattle.std.proofs.Common.{◌∙◌, ◌<◌, ℕ, None, subst, sym}
use Rattle.wait_model.specs.declared.layout.TheConstants.{FIRST_PLAIN_HEAD, PRIORITY_TASKS}
use Rattle.wq_head.proofs.LockWaits.{locked_stored, locked_at}
use Rattle.wq_head.proofs.ReadyTasks.{first_head, locked_number}
use Rattle.head_tests.proofs.heads.adds.Goals as goal

pub add_front-added-requires-clause-head : goal.add_front-added-requires-clause-head
add_front-added-requires-clause-head g c = first_head
    ∙ sym (locked_at _ c.lock.new.task FIRST_PLAIN_HEAD None c.lock.ensures.locked)

pub add_front-added-requires-clause-out : goal.add_front-added-requires-clause-out
add_front-added-requires-clause-out g c = locked_stored c.args.task.now c.lock.new.task FIRST_PLAIN_HEAD None
    c.lock.ensures.locked _ (c.requires.ready.may.out _)

pub add_tail-added-requires-clause-head : goal.add_tail-added-requires-clause-head
add_tail-added-requires-clause-head g c = first_head
    ∙ sym (locked_at _ c.lock.new.task FIRST_PLAIN_HEAD None c.lock.ensures.locked)

pub add_tail-added-requires-clause-out : goal.add_tail-added-requires-clause-out
add_tail-added-requires-clause-out g c = locked_stored c.args.task.now c.lock.new.task FIRST_PLAIN_HEAD None
    c.lock.ensures.locked _ (c.requires.ready.may.out _)

pub add_priority-added-requires-clause-head : goal.add_priority-added-requires-clause-head
add_priority-added-requires-clause-head g c = first_head
    ∙ sym (locked_at _ c.lock.new.task FIRST_PLAIN_HEAD None c.lock.ensures.locked)

pub add_priority-added-requires-clause-out : goal.add_priority-added-requires-clause-out
add_priority-added-requires-clause-out g c = locked_stored c.args.task.now c.lock.new.task FIRST_PLAIN_HEAD None
    c.lock.ensures.locked _ (c.requires.ready.may.out _)

pub add_priority-added-requires-clause-few : goal.add_priority-added-requires-clause-few
add_priority-added-requires-clause-few g c = subst (λ (n : ℕ). n < PRIORITY_TASKS)
    (locked_number c.args.task.now c.lock.new.task FIRST_PLAIN_HEAD None c.lock.ensures.locked) c.requires.few
