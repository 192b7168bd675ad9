use Rattle.std.proofs.Common.{refl}
use Rattle.wait_class.proofs.{Turns.advances_none, UnderWay.begun_here}
use Rattle.wait_event.specs.Waits.{wait_table}
use Rattle.wait_event.specs.declared.waits.WaitStage.TheVariants as stage
use Rattle.wait_event.proofs.{WaitLaws.wait_lawful, Conditions.full_runs, Endings.begins_at}
use Rattle.wait_event.proofs.wait_events.begin_wait.Goals as goal

pub returns-clause-at : goal.returns-clause-at
returns-clause-at c = begins_at c.args.task.now c.fresh_wait.result
    (full_runs c.fresh_wait.result.of c.args.cond c.fresh_wait.ensures.watch_is c.requires.full)
    c.told.ensures c.requires.up c.requires.idle c.requires.out

pub returns-clause-under : goal.returns-clause-under
returns-clause-under c clean = begun_here wait_table wait_lawful (wait_table.plan_of c.fresh_wait.result.of)
    c.args.task.now c.fresh_wait.result stage.First clean c.told.ensures refl refl (returns-clause-at c)

pub returns-clause-came : goal.returns-clause-came
returns-clause-came c = advances_none wait_table wait_lawful c.args.task.now c.fresh_wait.result stage.First
    (returns-clause-at c)
