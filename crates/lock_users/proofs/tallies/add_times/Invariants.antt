use Rattle.std.specs.Prelude.{ℕ, ◌≡◌}
use Rattle.wait_rule.specs.Says.{RestsIn}
use Rattle.futex_table.specs.TalliedTasks.{HasTallied}
use Rattle.lock_users.proofs.tallies.add_times.Given as goal

abbrev pub invariant-loop-i : goal.invariant-loop-i
invariant-loop-i g l = record {
  rests : RestsIn l.fn.domain l.task;
  added : (o h : ℕ) → HasTallied l.fn.task 6 7 o 0 h → HasTallied l.task 6 7 o l.adds h;
  most : l.adds ≡ l._i;
}
