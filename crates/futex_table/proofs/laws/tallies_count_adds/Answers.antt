use Rattle.futex_table.proofs.GuardedTallies.{all_count_adds, all_read_adds, rule_counts_adds, steps_count_adds}
use Rattle.futex_table.proofs.laws.tallies_count_adds.Goals as goal

pub returns : goal.returns
returns c = record {
  steps = steps_count_adds;
  rule = rule_counts_adds;
  all = all_count_adds;
  read = all_read_adds;
}
