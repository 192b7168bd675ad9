use Rattle.futex_table.proofs.TalliedCalls.{stay_tallied}
use Rattle.futex_table.proofs.lock_stretches.end_mutex_lock_until.Goals as goal

pub returns-clause-tallied : goal.returns-clause-tallied
returns-clause-tallied c start x = stay_tallied c.args.lock start c.args.task.now x.left.tallies
