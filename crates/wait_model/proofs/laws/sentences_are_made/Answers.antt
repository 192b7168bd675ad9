use Rattle.wait_model.proofs.{SentenceLaws.FollowedSentences.programs_follow, SentenceLaws.MadeCalls.sentences_are_made}
use Rattle.wait_model.proofs.laws.sentences_are_made.Goals as goal

pub returns : goal.returns
returns c = record { made = sentences_are_made; only = programs_follow }
