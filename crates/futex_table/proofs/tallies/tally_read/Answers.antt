use Rattle.std.proofs.Common.{◌∙◌}
use Rattle.futex_table.proofs.{CondVaring.load_held, TalliedCalls.read_is, TalliedCalls.read_stays}
use Rattle.futex_table.proofs.tallies.tally_read.Goals as goal

pub returns-clause-held : goal.returns-clause-held
returns-clause-held c = load_held c.args.tally c.cond_load.result c.args.task.now c.cond_load.new.task
    c.cond_load.ensures.step

pub returns-clause-holds : goal.returns-clause-holds
returns-clause-holds c = load_held c.args.tally c.cond_load.result c.args.task.now c.cond_load.new.task
    c.cond_load.ensures.step c.args.lock ∙ c.requires.held

pub returns-clause-tallied : goal.returns-clause-tallied
returns-clause-tallied c = read_stays c.args.lock c.args.tally c.cond_load.result c.args.task.now c.cond_load.new.task
    c.cond_load.ensures.step

pub returns-clause-read : goal.returns-clause-read
returns-clause-read c = read_is c.args.lock c.args.tally c.cond_load.result c.args.task.now c.cond_load.new.task
    c.requires.held c.cond_load.ensures.step
