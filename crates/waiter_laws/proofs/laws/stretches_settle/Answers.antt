use Rattle.waiter_laws.proofs.Settled.{cells_settle, settled_wake_all, swakes_settle, wakes_settle}
use Rattle.waiter_laws.proofs.laws.stretches_settle.Goals as goal

pub returns-clause-settled : goal.returns-clause-settled
returns-clause-settled c = settled_wake_all

pub returns-clause-wakes : goal.returns-clause-wakes
returns-clause-wakes c = wakes_settle

pub returns-clause-swakes : goal.returns-clause-swakes
returns-clause-swakes c = swakes_settle

pub returns-clause-cells : goal.returns-clause-cells
returns-clause-cells c = cells_settle
