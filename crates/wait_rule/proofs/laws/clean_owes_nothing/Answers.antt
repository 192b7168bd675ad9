use Rattle.wait_rule.proofs.KnownLaws.PlainDebts.{clean_owes_none, rule_tells_debts}
use Rattle.wait_rule.proofs.laws.clean_owes_nothing.Goals as goal

pub returns-clause-clean : goal.returns-clause-clean
returns-clause-clean c = clean_owes_none

pub returns-clause-told : goal.returns-clause-told
returns-clause-told c = rule_tells_debts
