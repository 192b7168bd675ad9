use Rattle.completion_cell.proofs.Words.{alls_follow, asks_follow, awaits_follow, completes_follow, tries_follow}
use Rattle.completion_cell.proofs.laws.calls_follow_sentences.Goals as goal

pub returns-clause-completes : goal.returns-clause-completes
returns-clause-completes c = completes_follow

pub returns-clause-alls : goal.returns-clause-alls
returns-clause-alls c = alls_follow

pub returns-clause-tries : goal.returns-clause-tries
returns-clause-tries c = tries_follow

pub returns-clause-asks : goal.returns-clause-asks
returns-clause-asks c = asks_follow

pub returns-clause-waits : goal.returns-clause-waits
returns-clause-waits c = awaits_follow
