use Rattle.std.proofs.Common.{◌∙◌, subst, sym}
use Rattle.futex_table.specs.FutexEnds.{EndsFutexWait}
use Rattle.futex_table.specs.declared.waits.FutexStage.TheVariants as stage
use Rattle.futex_table.proofs.{FutexEndings.ends_carried, FutexEndings.ends_futex, WordSteps.futex_holds}
use Rattle.futex_table.proofs.futexes.futex_wait.Goals as goal

pub returns-clause-waited : goal.returns-clause-waited
returns-clause-waited g c = subst
    (EndsFutexWait c.args.task.now c.run-outcome.new.task c.args.futex c.args.expected c.args.state)
    (sym c.end_of_futex.ensures)
    (ends_futex c.args.task.now c.run-outcome.new.task c.begin_futex-wait.result c.run-outcome.new.run
    c.args.futex c.args.expected c.args.state c.begin_futex-wait.ensures.fresh c.run-outcome.result
    c.run-outcome.ensures)

pub returns-clause-carries : goal.returns-clause-carries
returns-clause-carries g c = ends_carried c.args.task.now c.run-outcome.new.task c.begin_futex-wait.result
    c.run-outcome.new.run stage.First c.run-outcome.result c.run-outcome.ensures c.requires.up
    c.requires.idle (c.begin_futex-wait.ensures.told.head ∙ c.requires.idle.free.head)

pub returns-clause-held : goal.returns-clause-held
returns-clause-held g c = futex_holds c.args.futex c.args.expected c.args.state c.args.task.now.view.number
    c.args.task.now c.run-outcome.new.task _ _ (returns-clause-waited g c).runs
