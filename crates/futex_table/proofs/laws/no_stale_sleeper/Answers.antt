use Rattle.futex_table.proofs.{NobodyStale.rule_leaves_nobody, NobodyStale.steps_leave_nobody}
use Rattle.futex_table.proofs.{Staling.rule_leaves_no_stale, Staling.steps_leave_no_stale, Sleeping.sleepers_sleep_for}
use Rattle.futex_table.proofs.laws.no_stale_sleeper.Goals as goal

pub returns : goal.returns
returns c = record {
  steps = steps_leave_no_stale;
  rule = rule_leaves_no_stale;
  sleepers = sleepers_sleep_for;
  nobody = steps_leave_nobody;
  nobody_ruled = rule_leaves_nobody;
}
