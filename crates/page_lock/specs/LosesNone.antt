-- To be believed.
-- A page that is given back leaves nobody asleep on it, by what the call says of itself.
use Rattle.std.specs.Prelude.{ℕ}
use Rattle.wait_model.specs.declared.watches.Mode.TheVariants as mode
use Rattle.wait_model.specs.declared.watches.Watch.TheVariants as watch
use Rattle.wait_rule.specs.{Known.Known, LosesNone.LeavesNoneAsleep, LosesNone.OwesBeside, Says.Excuse, Stays.with_bit}
use Rattle.bit_wait.specs.Clears.{GivesBack}

-- before the call the task owed no wake of the page, as its holder does not
abbrev pub UnlocksLoseNone : Type 0
UnlocksLoseNone = (old new : Known) (p : ℕ) (x : Excuse)
    → OwesBeside (watch.Bit p 0) (with_bit (watch.Bit p 0) x) old → GivesBack old new (watch.Bit p 0)
    → LeavesNoneAsleep (watch.Bit p 0) mode.Normal new
