use Rattle.std.proofs.Common.{refl, subst, sym}
use Rattle.wait_class.proofs.UnderWay.{begun_here}
use Rattle.futex_table.specs.FutexTables.{IsFutex, futex_table}
use Rattle.futex_table.specs.declared.waits.FutexStage.TheVariants as stage
use Rattle.futex_table.proofs.{FutexLaws.futex_lawful, FutexEndings.begins_at}
use Rattle.futex_table.proofs.futexes.begin_futex.Goals as goal

pub returns-clause-at : goal.returns-clause-at
returns-clause-at c = begins_at c.args.task.now c.new.result (subst IsFutex (sym c.new.ensures) c.requires.futex)
    c.told.ensures c.requires.up c.requires.idle c.requires.out

pub returns-clause-under : goal.returns-clause-under
returns-clause-under c clean = begun_here futex_table futex_lawful (futex_table.plan_of c.new.result.of)
    c.args.task.now c.new.result stage.First clean c.told.ensures refl refl (returns-clause-at c)
