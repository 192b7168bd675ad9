use Rattle.page_lock.proofs.PageLaws.{page_lawful}
use Rattle.page_lock.proofs.waits.LockPageMachine.lawful.Goals as goal

pub returns : goal.returns
returns c = page_lawful
