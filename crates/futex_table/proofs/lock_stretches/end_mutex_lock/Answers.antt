use Rattle.std.proofs.Common.{subst}
use Rattle.futex_table.specs.LockLeaves.{LocksMutexUntil}
use Rattle.futex_table.proofs.{LockStretching.plain_locks, TalliedCalls.stay_tallied}
use Rattle.futex_table.proofs.lock_stretches.end_mutex_lock.Goals as goal

pub returns-clause-locked : goal.returns-clause-locked
returns-clause-locked c start x = plain_locks c.args.lock start c.args.task.now c.in-Over.end
    (subst (LocksMutexUntil ⊥ start c.args.task.now c.args.lock) c.in-Over.is x.locked)

pub returns-clause-tallied : goal.returns-clause-tallied
returns-clause-tallied c start x = stay_tallied c.args.lock start c.args.task.now x.left.tallies
