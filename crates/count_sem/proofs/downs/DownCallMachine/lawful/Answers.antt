use Rattle.count_sem.proofs.DownLaws.{down_lawful}
use Rattle.count_sem.proofs.downs.DownCallMachine.lawful.Goals as goal

pub returns : goal.returns
returns c = down_lawful
