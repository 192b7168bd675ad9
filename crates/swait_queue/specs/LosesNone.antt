-- To be believed.
-- A wake of a simple queue leaves nobody asleep there, by what it says of itself.
use Rattle.std.specs.Prelude.{ℕ}
use Rattle.wait_model.specs.declared.watches.Mode.TheVariants as mode
use Rattle.wait_model.specs.declared.watches.Watch.TheVariants as watch
use Rattle.wait_rule.specs.{Known.Known, LosesNone.HasNoWakeOf, LosesNone.LeavesNoneAsleep, Says.Excuse, Says.OwesBut}
use Rattle.wait_rule.specs.Stays.{Carries, wake_all_change, with_wakes}

-- Before the call the task owed wakes of the condition, as one that has set it does, and at most this beside them.
abbrev pub SwakesLoseNone : Type 0
SwakesLoseNone = (old new : Known) (c : ℕ) (x : Excuse) → HasNoWakeOf (watch.Plain c) x
    → OwesBut (with_wakes (watch.Plain c) mode.Normal x) old
    → Carries (wake_all_change (watch.Plain c) mode.Normal new.at) old new
    → LeavesNoneAsleep (watch.Plain c) mode.Normal new
