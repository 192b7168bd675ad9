-- To be believed.
-- What contracts see of a checked task: what its task knows, the bits that it keeps, and the call that is under way.
use Rattle.std.specs.Prelude.{ℕ}
use Rattle.wait_rule.specs.{Journals.left_with, Known.Known, Says.seen_with}
use Rattle.wq_checked.specs.{declared.calls.Running.Running, declared.kept_bits.KeptBits.KeptBits}

pub record Checked : Type 0 where
  pub task : Known
  pub kept : KeptBits
  pub running : Running

-- the same after it gave out its next number, with a share of those that follow
abbrev pub shared_by : ℕ → Checked → Checked
shared_by share t = record {
  task = seen_with t.task (left_with share t.task.view);
  kept = t.kept;
  running = t.running;
}
