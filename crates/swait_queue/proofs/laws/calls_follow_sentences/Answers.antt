use Rattle.swait_queue.proofs.SimpleWords.{simple_waits_follow, simple_wakes_follow}
use Rattle.swait_queue.proofs.laws.calls_follow_sentences.Goals as goal

pub returns-clause-waits : goal.returns-clause-waits
returns-clause-waits c = simple_waits_follow

pub returns-clause-wakes : goal.returns-clause-wakes
returns-clause-wakes c = simple_wakes_follow
