use Rattle.std.proofs.Common.{refl, subst, sym}
use Rattle.wait_class.proofs.{Turns.advances_none, UnderWay.begun_here}
use Rattle.page_lock.specs.declared.waits.PageStage.TheVariants as stage
use Rattle.page_lock.proofs.{PageLaws.page_lawful, PageEndings.begins_at}
use Rattle.page_lock.specs.{PageTables.IsRunningPageWait, PageTables.page_table}
use Rattle.page_lock.proofs.wait_calls.begin_page.Goals as goal

pub returns-clause-at : goal.returns-clause-at
returns-clause-at c = begins_at c.args.task.now c.new.result (subst IsRunningPageWait (sym c.new.ensures) c.requires.page)
    c.told.ensures c.requires.up c.requires.idle c.requires.out c.requires.asks

pub returns-clause-under : goal.returns-clause-under
returns-clause-under c clean = begun_here page_table page_lawful (page_table.plan_of c.new.result.of) c.args.task.now
    c.new.result stage.First clean c.told.ensures refl refl (returns-clause-at c)

pub returns-clause-came : goal.returns-clause-came
returns-clause-came c = advances_none page_table page_lawful c.args.task.now c.new.result stage.First
    (returns-clause-at c)
