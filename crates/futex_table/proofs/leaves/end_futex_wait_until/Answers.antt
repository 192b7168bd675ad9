use Rattle.std.proofs.Common.{subst, sym}
use Rattle.futex_table.specs.FutexLeaves.{EndsFutexUntil}
use Rattle.futex_table.proofs.FutexLeaving.{ends_until, way_clean}
use Rattle.futex_table.proofs.leaves.end_futex_wait_until.Goals as goal

pub returns-clause-clean : goal.returns-clause-clean
returns-clause-clean c = λ p i. way_clean i

pub returns-clause-ends : goal.returns-clause-ends
returns-clause-ends c = λ start f futex expected state fresh w. subst
    (EndsFutexUntil (Unit {0}) start c.args.task.now futex expected state) (sym c.futex_until_of.ensures)
    (ends_until fresh w)
