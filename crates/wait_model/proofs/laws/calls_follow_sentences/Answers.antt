use Rattle.wait_model.proofs.SentenceLaws.SpokenCalls.{calls_follow_sentences, open_calls_begin}
use Rattle.wait_model.proofs.laws.calls_follow_sentences.Goals as goal

pub returns : goal.returns
returns c = record { ended = calls_follow_sentences; begun = open_calls_begin }
