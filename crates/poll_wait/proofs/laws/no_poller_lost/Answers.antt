use Rattle.poll_wait.proofs.Waiting.{pollers_are_kept}
use Rattle.poll_wait.proofs.laws.no_poller_lost.Goals as goal

pub returns : goal.returns
returns c = pollers_are_kept
