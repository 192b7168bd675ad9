use Rattle.wq_checked.proofs.EventTurns.{event_turns}
use Rattle.wq_checked.proofs.kinds.WaitCallKind.is_kind.Goals as goal

pub returns : goal.returns
returns c = event_turns
