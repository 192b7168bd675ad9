use Rattle.wq_checked.proofs.AwaitTurns.{await_turns}
use Rattle.wq_checked.proofs.kinds.AwaitCallKind.is_kind.Goals as goal

pub returns : goal.returns
returns c = await_turns
