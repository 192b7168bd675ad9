use Rattle.futex_table.proofs.GuardedWords.{rule_keeps_read, steps_keep_read}
use Rattle.futex_table.proofs.Holders.{holders_are_one, rule_has_one_holder, steps_have_one_holder}
use Rattle.futex_table.proofs.laws.one_holder.Goals as goal

pub returns : goal.returns
returns c = record {
  steps = steps_have_one_holder;
  rule = rule_has_one_holder;
  one = holders_are_one;
  read = steps_keep_read;
  read_ruled = rule_keeps_read;
}
