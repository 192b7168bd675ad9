use Rattle.wq_checked.proofs.PageTurns.{page_turns}
use Rattle.wq_checked.proofs.kinds.LockPageKind.is_kind.Goals as goal

pub returns : goal.returns
returns c = page_turns
