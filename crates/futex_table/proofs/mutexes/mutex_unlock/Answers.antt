use Rattle.futex_table.proofs.{Tallying.freed_leaves, TalliedCalls.stay_tallied}
use Rattle.futex_table.proofs.mutexes.mutex_unlock.Goals as goal

pub returns-clause-tallies : goal.returns-clause-tallies
returns-clause-tallies g c = freed_leaves c.args.lock c.args.task.now c.store_and_wake-walked.new.task
    c.store_and_wake-walked.ensures.stores c.requires.held

pub returns-clause-tallied : goal.returns-clause-tallied
returns-clause-tallied g c = stay_tallied c.args.lock c.args.task.now c.store_and_wake-walked.new.task
    (returns-clause-tallies g c)
