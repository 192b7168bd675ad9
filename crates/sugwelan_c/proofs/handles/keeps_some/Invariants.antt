use Rattle.std.proofs.Common.{◌≡◌, ℕ, ◌<◌, false}
use Rattle.wait_model.specs.declared.watches.Watch.TheVariants as watch
use Rattle.wq_checked.specs.Kept.{keeps_in}
use Rattle.sugwelan_c.proofs.handles.keeps_some.Given as goal

abbrev pub invariant-loop-bit : goal.invariant-loop-bit
invariant-loop-bit l = (b : ℕ) → b < l.bit → keeps_in l.task.kept (watch.Bit l.word b) ≡ false
