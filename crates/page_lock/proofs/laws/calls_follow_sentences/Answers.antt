use Rattle.page_lock.proofs.PageWords.{locks_follow}
use Rattle.page_lock.proofs.laws.calls_follow_sentences.Goals as goal

pub returns : goal.returns
returns c = record { locks = locks_follow }
