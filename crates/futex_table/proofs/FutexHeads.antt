-- The head of a futex is none of a completion.
use Rattle.std.proofs.Common.{arith}
use Rattle.std.specs.Prelude.{ℕ, ◌<◌}
use Rattle.wait_model.specs.declared.layout.TheConstants.{FIRST_DONE_HEAD, FIRST_SIMPLE}
use Rattle.wait_model.specs.Watches.{head_of}
use Rattle.futex_table.specs.FutexTables.{futex_head}

pub futex_low : (f : ℕ) → f < FIRST_SIMPLE → futex_head f < FIRST_DONE_HEAD
unfolding head_of
futex_low f few = omega (arith, few)
