use Rattle.var_wait.proofs.VarWords.{publishes_follow, var_waits_follow}
use Rattle.var_wait.proofs.laws.calls_follow_sentences.Goals as goal

pub returns-clause-waits : goal.returns-clause-waits
returns-clause-waits c = var_waits_follow

pub returns-clause-publishes : goal.returns-clause-publishes
returns-clause-publishes c = publishes_follow
