use Rattle.wait_rule.proofs.{SaidEvents.FollowedRuns.runs_follow, SaidEvents.BegunRuns.runs_begin}
use Rattle.wait_rule.proofs.{SaidEvents.FollowedWakes.wakes_follow, SaidEvents.FollowedWalks.walks_follow}
use Rattle.wait_rule.proofs.laws.runs_follow_sentences.Goals as goal

pub returns-clause-calls : goal.returns-clause-calls
returns-clause-calls c = runs_follow

pub returns-clause-walks : goal.returns-clause-walks
returns-clause-walks c = walks_follow

pub returns-clause-begun : goal.returns-clause-begun
returns-clause-begun c = runs_begin

pub returns-clause-wakes : goal.returns-clause-wakes
returns-clause-wakes c = wakes_follow
