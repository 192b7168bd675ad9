use Rattle.wait_tests.proofs.Hearers.{clean_stays}
use Rattle.wait_tests.proofs.events.flags.hear.Goals as goal

pub returns-clause-hearer : goal.returns-clause-hearer
returns-clause-hearer g c = clean_stays c.args.task.now c.wait_woken.new.task c.wait_woken.ensures.carries
    c.requires.hearer
