use Rattle.wait_pipe.proofs.PipeWords.{closes_follow, peeks_follow, reads_follow, writes_follow}
use Rattle.wait_pipe.proofs.laws.calls_follow_sentences.Goals as goal

pub returns : goal.returns
returns c = record {
  writes = writes_follow;
  reads = reads_follow;
  peeks = peeks_follow;
  closes = closes_follow;
}
