use Rattle.std.proofs.Common.{subst, sym}
use Rattle.wait_leave.proofs.Ways.{on_way_then}
use Rattle.futex_table.specs.FutexLeaves.{LeavesFutex}
use Rattle.futex_table.proofs.FutexLaws.{futex_lawful}
use Rattle.futex_table.proofs.FutexLeaving.{futex_may_leave, leaves_futex, left_held, left_idle, left_kept, way_clean}
use Rattle.futex_table.proofs.leaves.leave_futex_wait.Goals as goal

pub returns-clause-leaves : goal.returns-clause-leaves
returns-clause-leaves g c = subst (LeavesFutex (Unit {0}) c.args.task.now c.leave-outcome.new.task c.args.wait.now
    c.args.stage) (sym c.futex_until_of.ensures)
    (leaves_futex c.leave-outcome.ensures.way)

pub returns-clause-idle : goal.returns-clause-idle
returns-clause-idle g c = left_idle c.leave-outcome.ensures.way

pub returns-clause-keeps : goal.returns-clause-keeps
returns-clause-keeps g c = left_kept c.leave-outcome.ensures.way

pub returns-clause-held : goal.returns-clause-held
returns-clause-held g c = left_held c.leave-outcome.ensures.way

pub returns-clause-clean : goal.returns-clause-clean
returns-clause-clean g c p i = way_clean (on_way_then futex_may_leave futex_lawful i c.leave-outcome.ensures.way)
