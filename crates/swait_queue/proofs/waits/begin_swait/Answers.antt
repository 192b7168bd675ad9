use Rattle.std.proofs.Common.{refl, subst}
use Rattle.wait_model.specs.declared.tasks.How.{How}
use Rattle.wait_model.specs.declared.watches.Watch.TheVariants as watch
use Rattle.wait_class.proofs.{Turns.advances_none, UnderWay.begun_here}
use Rattle.wait_event.specs.declared.waits.WaitStage.TheVariants as stage
use Rattle.wait_event.specs.Waits.{IsFreshWait, wait_table}
use Rattle.wait_event.proofs.{WaitLaws.wait_lawful, Conditions.tail_runs, Endings.begins_at}
use Rattle.swait_queue.specs.SimpleWaits.{tail_in}
use Rattle.swait_queue.proofs.waits.begin_swait.Goals as goal

pub returns-clause-fresh : goal.returns-clause-fresh
returns-clause-fresh c = subst (λ (h : How). IsFreshWait c.fresh_wait.result.of (watch.Plain c.args.cond) h) c.tail_in.ensures
    c.fresh_wait.ensures

pub returns-clause-at : goal.returns-clause-at
returns-clause-at c =
    let fresh = returns-clause-fresh c in
    begins_at c.args.task.now c.fresh_wait.result
    (tail_runs c.fresh_wait.result.of c.args.cond (tail_in c.args.state) fresh.watch_is fresh.how_is c.requires.simple.plain refl)
    c.told.ensures c.requires.up c.requires.idle c.requires.out

pub returns-clause-under : goal.returns-clause-under
returns-clause-under c clean = begun_here wait_table wait_lawful (wait_table.plan_of c.fresh_wait.result.of)
    c.args.task.now c.fresh_wait.result stage.First clean c.told.ensures refl refl (returns-clause-at c)

pub returns-clause-came : goal.returns-clause-came
returns-clause-came c = advances_none wait_table wait_lawful c.args.task.now c.fresh_wait.result stage.First
    (returns-clause-at c)
