-- To be believed.
-- Locks that turns pass on: whether the threads that park for one are still to be woken.
use Rattle.std.specs.Prelude.{◌≡◌}
use Rattle.wait_model.specs.declared.layout.TheConstants.{HEADS}
use Rattle.wait_rule.specs.declared.passing.Passing.{Passing}

-- there is none: its number is behind the last head's
abbrev pub PassesNone : Passing → Type 0
PassesNone p = p.head ≡ HEADS
