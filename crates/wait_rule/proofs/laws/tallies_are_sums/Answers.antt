use Rattle.wait_rule.proofs.KnownLaws.FoundTallies.{all_sum_tallies}
use Rattle.wait_rule.proofs.KnownLaws.CountedTallies.{adds_count, joins_count, newcomers_count_none}
use Rattle.wait_rule.proofs.KnownLaws.CountedTallies.{programs_add_none, programs_keep_numbers}
use Rattle.wait_rule.proofs.laws.tallies_are_sums.Goals as goal

pub returns-clause-all : goal.returns-clause-all
returns-clause-all c = all_sum_tallies

pub returns-clause-adds : goal.returns-clause-adds
returns-clause-adds c = adds_count

pub returns-clause-joins : goal.returns-clause-joins
returns-clause-joins c = joins_count

pub returns-clause-newcomers : goal.returns-clause-newcomers
returns-clause-newcomers c = newcomers_count_none

pub returns-clause-programs : goal.returns-clause-programs
returns-clause-programs c = programs_add_none

pub returns-clause-numbers : goal.returns-clause-numbers
returns-clause-numbers c = programs_keep_numbers
