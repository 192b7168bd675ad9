use Rattle.wait_pipe.proofs.LosesNone.{closes_lose_none, passes_lose_none, pipes_lose_none}
use Rattle.wait_pipe.proofs.laws.pipes_lose_none.Goals as goal

pub returns : goal.returns
returns c = record {
  asleep = pipes_lose_none;
  passes = passes_lose_none;
  closes = closes_lose_none;
}
