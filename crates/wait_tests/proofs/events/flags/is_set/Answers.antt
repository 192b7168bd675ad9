use Rattle.wait_tests.proofs.Hearers.{clean_stays, hearer_stays}
use Rattle.wait_tests.proofs.events.flags.is_set.Goals as goal

pub returns-clause-hearer : goal.returns-clause-hearer
returns-clause-hearer c = hearer_stays c.args.task.now c.cond_load.new.task c.cond_load.ensures.carries
    c.requires.hearer

pub returns-clause-clean : goal.returns-clause-clean
returns-clause-clean c = clean_stays c.args.task.now c.cond_load.new.task c.cond_load.ensures.carries
