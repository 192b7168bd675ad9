use Rattle.completion_cell.proofs.AwaitLaws.{await_lawful}
use Rattle.completion_cell.proofs.awaits.AwaitCallMachine.lawful.Goals as goal

pub returns : goal.returns
returns c = await_lawful
