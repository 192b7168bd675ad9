use Rattle.futex_table.proofs.FutexLaws.{futex_lawful}
use Rattle.futex_table.proofs.waits.FutexWaitMachine.lawful.Goals as goal

pub returns : goal.returns
returns c = futex_lawful
