use Rattle.poll_wait.proofs.WorkedPolls.{worked_polls}
use Rattle.poll_wait.proofs.laws.worked_polls.Goals as goal

pub returns : goal.returns
returns c = worked_polls
