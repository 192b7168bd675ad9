-- To be believed.
-- A bit that is given back leaves nobody asleep on it, by what the call says of itself.
use Rattle.std.specs.Prelude.{ℕ}
use Rattle.wait_model.specs.declared.watches.Mode.TheVariants as mode
use Rattle.wait_model.specs.declared.watches.Watch.TheVariants as watch
use Rattle.wait_rule.specs.{Known.Known, LosesNone.LeavesNoneAsleep, LosesNone.OwesBeside, Says.Excuse, Stays.with_bit}
use Rattle.bit_wait.specs.Clears.{GivesBack}

-- Before the call the task owed no wake of the bit: a holder of it (`IsHolder`) does not, nor does one that keeps more,
-- or owes of other watches.
abbrev pub ClearsLoseNone : Type 0
ClearsLoseNone = (old new : Known) (w b : ℕ) (x : Excuse)
    → OwesBeside (watch.Bit w b) (with_bit (watch.Bit w b) x) old → GivesBack old new (watch.Bit w b)
    → LeavesNoneAsleep (watch.Bit w b) mode.Normal new
