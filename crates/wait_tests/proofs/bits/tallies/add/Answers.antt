use Rattle.wait_model.specs.declared.watches.Watch.TheVariants as watch
use Rattle.bit_wait.proofs.Holders.{still_holds}
use Rattle.wait_tests.proofs.bits.tallies.add.Goals as goal

pub returns-clause-holder : goal.returns-clause-holder
returns-clause-holder c = still_holds c.args.task.now _ (watch.Bit c.args.page 0) c.tally_add.ensures.carries
    c.requires.holder
