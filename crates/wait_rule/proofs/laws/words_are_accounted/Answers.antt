use Rattle.wait_rule.proofs.KnownLaws.TableLaws.{all_took_raised, all_balance, rule_takes_made, all_take_made}
use Rattle.wait_rule.proofs.laws.words_are_accounted.Goals as goal

pub returns-clause-told : goal.returns-clause-told
returns-clause-told c = all_took_raised

pub returns-clause-balance : goal.returns-clause-balance
returns-clause-balance c = all_balance

pub returns-clause-taken : goal.returns-clause-taken
returns-clause-taken c = rule_takes_made

pub returns-clause-all_taken : goal.returns-clause-all_taken
returns-clause-all_taken c = all_take_made
