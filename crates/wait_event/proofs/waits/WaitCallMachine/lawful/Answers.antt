use Rattle.wait_event.proofs.WaitLaws.{wait_lawful}
use Rattle.wait_event.proofs.waits.WaitCallMachine.lawful.Goals as goal

pub returns : goal.returns
returns c = wait_lawful
