use Rattle.wait_rule.proofs.KnownLaws.SpentCounts.{rule_counts_spent, all_count_spent}
use Rattle.wait_rule.proofs.KnownLaws.TableLaws.{rule_loses_none, steps_lose_none, all_lose_none}
use Rattle.wait_rule.proofs.laws.no_wake_lost.Goals as goal

pub returns-clause-rule : goal.returns-clause-rule
returns-clause-rule c = rule_loses_none

pub returns-clause-steps : goal.returns-clause-steps
returns-clause-steps c = steps_lose_none

pub returns-clause-all : goal.returns-clause-all
returns-clause-all c = all_lose_none

pub returns-clause-spent : goal.returns-clause-spent
returns-clause-spent c = rule_counts_spent

pub returns-clause-all_spent : goal.returns-clause-all_spent
returns-clause-all_spent c = all_count_spent
