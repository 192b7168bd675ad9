use Rattle.futex_table.proofs.{Tallying.opened_tallies, TalliedCalls.starts_tallies}
use Rattle.futex_table.proofs.mutexes.mutex_open.Goals as goal

pub returns-clause-opens : goal.returns-clause-opens
returns-clause-opens g c = opened_tallies c.args.lock c.args.task.now c.store_and_wake.new.task
    c.store_and_wake.ensures.stores

pub returns-clause-starts : goal.returns-clause-starts
returns-clause-starts g c = starts_tallies c.args.lock c.args.task.now c.store_and_wake.new.task
    c.store_and_wake.ensures.stores
