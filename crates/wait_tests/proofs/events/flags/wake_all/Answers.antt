use Rattle.std.proofs.Common.{refl}
use Rattle.wait_model.specs.declared.watches.Mode.TheVariants as mode
use Rattle.wait_model.specs.declared.watches.Watch.TheVariants as watch
use Rattle.wait_rule.specs.Stays.{wake_all_change}
use Rattle.wait_tests.proofs.Hearers.{hearer_on}
use Rattle.wait_tests.proofs.events.flags.wake_all.Goals as goal

pub wake-requires-clause-idle : goal.wake-requires-clause-idle
wake-requires-clause-idle g c = record {
  running = c.requires.hearer.running;
  free = c.requires.hearer.free;
  unmarked = c.requires.unmarked;
}

pub returns-clause-hearer : goal.returns-clause-hearer
returns-clause-hearer g c = hearer_on (wake_all_change (watch.Plain 0) mode.Normal c.wake.new.task.at) c.args.task.now
    c.wake.new.task c.wake.ensures.carries refl c.wake.ensures.up c.wake.ensures.idle.free c.wake.ensures.idle.running
    c.requires.hearer
