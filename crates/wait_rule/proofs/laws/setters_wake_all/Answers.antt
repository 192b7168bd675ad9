use Rattle.wait_rule.proofs.KnownLaws.Setters.{rule_settles_all, rule_wakes_all, steps_settle_all, steps_wake_all}
use Rattle.wait_rule.proofs.KnownLaws.SettersFound.{all_set_for_good, rule_sets_for_good}
use Rattle.wait_rule.proofs.WorkedTests.WorkedSetters.{worked_setters}
use Rattle.wait_rule.proofs.laws.setters_wake_all.Goals as goal

pub returns-clause-steps : goal.returns-clause-steps
returns-clause-steps c = steps_wake_all

pub returns-clause-settled : goal.returns-clause-settled
returns-clause-settled c = steps_settle_all

pub returns-clause-rule : goal.returns-clause-rule
returns-clause-rule c = rule_wakes_all

pub returns-clause-rule_settled : goal.returns-clause-rule_settled
returns-clause-rule_settled c = rule_settles_all

pub returns-clause-worked : goal.returns-clause-worked
returns-clause-worked c = worked_setters

pub returns-clause-for_good : goal.returns-clause-for_good
returns-clause-for_good c = rule_sets_for_good

pub returns-clause-all_for_good : goal.returns-clause-all_for_good
returns-clause-all_for_good c = all_set_for_good
