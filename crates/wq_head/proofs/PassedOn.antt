-- A turn after which a head is held has passed no lock on.
use Rattle.std.proofs.Common.{inl, inr}
use Rattle.std.specs.Prelude.{◌≡◌, ◌⊎◌, Bool, true, false}
use Rattle.wait_rule.specs.{declared.passing.Passing.Passing, PassedLocks.PassesNone}

pub none_yet : (held : Bool) (p : Passing) → held ≡ true → PassesNone p ⊎ (held ≡ false) → PassesNone p
none_yet held p holds (inl none) = none
none_yet held p holds (inr over) = absurd (cc)
