use Rattle.std.proofs.Common.{subst, sym}
use Rattle.std.specs.Prelude.{Result}
use Rattle.wait_rule.specs.Queues.{index}
use Rattle.wait_leave.specs.declared.exits.Until.{Until}
use Rattle.bit_wait.specs.declared.wait_calls.BitEnd.{BitEnd}
use Rattle.page_lock.specs.{PageLeaves.LeavesPage, PageLeaves.takes_page_until, PageStays.PageKeeps, PageTables.page_in}
use Rattle.page_lock.specs.PageTables.{page_table}
use Rattle.page_lock.proofs.PageLeaving.{leaves_page, left_idle, left_kept}
use Rattle.page_lock.proofs.leaves.leave_page.Goals as goal

pub returns-clause-leaves : goal.returns-clause-leaves
returns-clause-leaves g c = subst (LeavesPage (Unit {0}) c.args.task.now c.leave-outcome.new.task c.args.call.now
    c.args.stage) (sym c.until_of.ensures)
    (leaves_page _ _ _ _ _ _ _ c.leave-outcome.ensures.way)

pub returns-clause-idle : goal.returns-clause-idle
returns-clause-idle g c = left_idle _ _ _ _ _ _ _ c.leave-outcome.ensures.way

pub returns-clause-keeps : goal.returns-clause-keeps
returns-clause-keeps g c = subst (λ (x : Until (Result (Unit {0}) BitEnd)). PageKeeps
    (index c.args.task.now.view.number 0) (page_in c.args.call.now.of) (page_table.took c.args.stage)
    (takes_page_until x) c.args.task.now c.leave-outcome.new.task) (sym c.until_of.ensures)
    (left_kept _ _ _ _ _ _ _ c.leave-outcome.ensures.way)
