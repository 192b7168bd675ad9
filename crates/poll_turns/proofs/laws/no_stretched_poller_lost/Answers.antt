use Rattle.poll_turns.proofs.Sleepers.{sleepers_kept}
use Rattle.poll_turns.proofs.laws.no_stretched_poller_lost.Goals as goal

pub returns : goal.returns
returns c = sleepers_kept
