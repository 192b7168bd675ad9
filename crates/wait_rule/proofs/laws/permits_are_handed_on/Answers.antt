use Rattle.wait_rule.proofs.KnownLaws.HandedPermits.{all_hand_on, rule_hands_on, steps_hand_on}
use Rattle.wait_rule.proofs.KnownLaws.OtherCalls.{others_stay_off}
use Rattle.wait_rule.proofs.laws.permits_are_handed_on.Goals as goal

pub returns-clause-rule : goal.returns-clause-rule
returns-clause-rule c = rule_hands_on

pub returns-clause-steps : goal.returns-clause-steps
returns-clause-steps c = steps_hand_on

pub returns-clause-all : goal.returns-clause-all
returns-clause-all c = all_hand_on

pub returns-clause-others : goal.returns-clause-others
returns-clause-others c = others_stay_off
