use Rattle.futex_table.proofs.Mutexing.{woken_holds}
use Rattle.futex_table.proofs.futexes.futex_wake.Goals as goal

pub returns-clause-held : goal.returns-clause-held
returns-clause-held g c = woken_holds c.args.task.now c.wake.new.task _ c.wake.result c.wake.ensures.woken
