use Rattle.std.proofs.Common.{ℕ, ◌<◌, false}
use Rattle.sugwelan_c.specs.Handles.{KeepsSome}
use Rattle.sugwelan_c.proofs.handles.keeps_any.Given as goal

abbrev pub invariant-loop-word : goal.invariant-loop-word
invariant-loop-word l = (w : ℕ) → w < l.word → KeepsSome l.task.kept w false
