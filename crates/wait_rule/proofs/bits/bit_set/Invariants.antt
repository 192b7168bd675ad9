use Rattle.wait_model.specs.declared.watches.Watch.TheVariants as watch
use Rattle.wait_rule.proofs.bits.bit_set.Given as goal

abbrev pub ghosts-set_as : goal.ghosts-set_as
ghosts-set_as a = record { watch = watch.Bit a.word a.bit }
