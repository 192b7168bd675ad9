use Rattle.std.proofs.Common.{subst}
use Rattle.wait_model.specs.declared.tasks.SleepState.TheVariants as states
use Rattle.wait_event.specs.WokenWaits.{LandsHearing}
use Rattle.wait_tests.proofs.Hearers.{heard_hearer}
use Rattle.wait_tests.proofs.events.hearers.wait_on.Goals as goal

pub returns-in-Done-clause-hears : goal.returns-in-Done-clause-hears
returns-in-Done-clause-hears c = heard_hearer c.args.task.now
    (subst (LandsHearing c.args.task.now states.Interruptible) c.in-Done.is c.requires.lands)
