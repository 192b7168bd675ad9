use Rattle.wait_rule.proofs.KnownLaws.FoundPipes.{rule_delivers, rule_refuses, joined_deliver, joined_refuse}
use Rattle.wait_rule.proofs.KnownLaws.CarriedEnds.{programs_keep_ends, walks_keep_ends}
use Rattle.wait_rule.proofs.laws.pipes_deliver.Goals as goal

pub returns-clause-rule : goal.returns-clause-rule
returns-clause-rule c = rule_delivers

pub returns-clause-joined : goal.returns-clause-joined
returns-clause-joined c = joined_deliver

pub returns-clause-refuses : goal.returns-clause-refuses
returns-clause-refuses c = rule_refuses

pub returns-clause-joined_refuse : goal.returns-clause-joined_refuse
returns-clause-joined_refuse c = joined_refuse

pub returns-clause-programs : goal.returns-clause-programs
returns-clause-programs c = programs_keep_ends

pub returns-clause-walks : goal.returns-clause-walks
returns-clause-walks c = walks_keep_ends
