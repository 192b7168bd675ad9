use Rattle.futex_table.proofs.TalliedCalls.{fork_cuts, fork_leaves}
use Rattle.futex_table.proofs.tallies.tally_fork.Goals as goal

pub returns-clause-new_tallied : goal.returns-clause-new_tallied
returns-clause-new_tallied c = fork_cuts c.args.share c.args.task.now c.fork.result c.fork.ensures.room c.fork.ensures.new

pub returns-clause-tallied : goal.returns-clause-tallied
returns-clause-tallied c = fork_leaves c.args.share c.args.task.now c.fork.new.self c.fork.result c.fork.ensures.room
    c.fork.ensures.old
