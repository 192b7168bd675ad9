use Rattle.wait_event.proofs.PartWords.{prepares_follow}
use Rattle.wait_event.proofs.Words.{adds_follow, removes_follow, sets_follow, takes_follow, waits_follow, waits_say}
use Rattle.wait_event.proofs.Words.{wokens_follow}
use Rattle.wait_event.proofs.laws.calls_follow_sentences.Goals as goal

pub returns-clause-waits : goal.returns-clause-waits
returns-clause-waits c = waits_follow

pub returns-clause-takes : goal.returns-clause-takes
returns-clause-takes c = takes_follow

pub returns-clause-sets : goal.returns-clause-sets
returns-clause-sets c = sets_follow

pub returns-clause-says : goal.returns-clause-says
returns-clause-says c = waits_say

pub returns-clause-flags : goal.returns-clause-flags
returns-clause-flags c = wokens_follow

pub returns-clause-adds : goal.returns-clause-adds
returns-clause-adds c = adds_follow

pub returns-clause-removes : goal.returns-clause-removes
returns-clause-removes c = removes_follow

pub returns-clause-prepares : goal.returns-clause-prepares
returns-clause-prepares c = prepares_follow
