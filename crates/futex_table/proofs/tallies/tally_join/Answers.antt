use Rattle.futex_table.proofs.TalliedCalls.{joins_tallied, reads_all}
use Rattle.futex_table.proofs.tallies.tally_join.Goals as goal

pub returns-clause-tallied : goal.returns-clause-tallied
returns-clause-tallied c = joins_tallied c.args.task.now c.args.other c.join.new.self c.join.ensures.joined c.join.ensures.law

pub returns-clause-reads : goal.returns-clause-reads
returns-clause-reads c = reads_all c.args.task.now c.args.other c.join.new.self c.join.ensures.joined c.join.ensures.law
