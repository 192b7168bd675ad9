use Rattle.std.proofs.Common.{◌∙◌, None, sym}
use Rattle.wait_model.specs.declared.layout.TheConstants.{FIRST_PLAIN_HEAD}
use Rattle.wait_model.specs.declared.watches.Watch.TheVariants as watch
use Rattle.wait_model.specs.declared.watches.Kind.TheVariants as kind
use Rattle.wait_rule.specs.Queues.{IsFrontPlace}
use Rattle.wq_head.specs.Adds.{front_entry}
use Rattle.wq_head.proofs.LockWaits.{locked_stored, locked_at}
use Rattle.wq_head.proofs.ReadyTasks.{first_head, may_remove, removed_holds, locked_number}
use Rattle.head_tests.proofs.heads.removes_added.Goals as goal

pub add_front-requires-clause-head : goal.add_front-requires-clause-head
add_front-requires-clause-head g c = first_head
    ∙ sym (locked_at _ c.lock.new.task FIRST_PLAIN_HEAD None c.lock.ensures.locked)

pub add_front-requires-clause-out : goal.add_front-requires-clause-out
add_front-requires-clause-out g c = locked_stored c.args.task.now c.lock.new.task FIRST_PLAIN_HEAD None
    c.lock.ensures.locked _ (c.requires.ready.may.out _)

pub remove-requires-clause-may : goal.remove-requires-clause-may
remove-requires-clause-may g c = may_remove IsFrontPlace c.lock.new.task c.add_front.new.task 0
    (front_entry (watch.Plain 0) kind.Autoremove) c.in-Ok.ensures.queued 0
    (sym c.requires.first
    ∙ locked_number c.args.task.now c.lock.new.task FIRST_PLAIN_HEAD None c.lock.ensures.locked)

pub has_members-has-requires-clause-held : goal.has_members-has-requires-clause-held
has_members-has-requires-clause-held g c = removed_holds c.add_front.new.task c.remove.new.task _ c.in-Ok.ensures.held
    c.remove.ensures.removed.is
