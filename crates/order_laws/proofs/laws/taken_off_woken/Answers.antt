use Rattle.order_laws.proofs.{QueuedOrders.left_entries_stand, RousedTasks.steps_take_off_woken}
use Rattle.order_laws.proofs.laws.taken_off_woken.Goals as goal

pub returns-clause-stand : goal.returns-clause-stand
returns-clause-stand c = left_entries_stand

pub returns-clause-steps : goal.returns-clause-steps
returns-clause-steps c = steps_take_off_woken
